-- What the first pass over the bytes asks and finds, which 01 does not speak of: whether they are a message, its numbers, and how many
-- names it has. The contracts of the functions that read say by it what they hand on to each other. What reading gives is `messages`'
-- `read_outcome`.
use Rattle.std.specs.Prelude.{List, Bool, ◌&&◌, Option, length, drop}
use Rattle.std.specs.Bool.{then_some}
use Rattle.names.specs.Ordering.{Row, rising}
use Rattle.numbers.specs.Bytes.{Bytes}
use Rattle.std.specs.List.{list_all}
use Rattle.fields.specs.Fields.{stands}
use Rattle.name_fields.specs.NameFields.{name_fits}
use Rattle.messages.specs.Messages.{kind_tag, epoch_tag, author_tag, kind_size, pair_size, epoch_place, author_place, names_in, numbers_in, keeps_message}
use Rattle.read_messages.specs.declared.Reading.{Reading}

-- the fields of kind, epoch and author stand at the beginning of s
abbrev pub numbers_stand : Bytes → Bool
numbers_stand s = stands kind_tag kind_size s && stands epoch_tag pair_size (drop epoch_place s) && stands author_tag pair_size (drop author_place s)

-- each is a name, and they rise
abbrev pub good_names : List Row → Bool
good_names l = list_all name_fits l && rising l

-- how many names a message has, and its numbers; nothing of what is no message
unfoldable pub telling : Bytes → Option Reading
telling s = then_some (keeps_message s) (record { names = length (names_in s); numbers = numbers_in s })
