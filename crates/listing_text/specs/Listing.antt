-- The text of a listing: document 01, "Cases", from "The listing program" on.
use Rattle.std.specs.Prelude.{ℕ, zero, suc, ◌+◌, ◌*◌, ◌/◌, ◌%◌, List, [], ◌∷◌, ◌++◌, cond, length, ltb, eqb, ℤ, pos, negsuc}
use Rattle.names.specs.declared.Tuple.{Tuple}
use Rattle.names.specs.Names.{limit}
use Rattle.names.specs.Ordering.{Row}
use Rattle.numbers.specs.Bytes.{Bytes}
use Rattle.slots.specs.Slots.{Slot}
use Rattle.answers.specs.declared.Refusal.TheVariants.{BadLayout}
use Rattle.answers.specs.Answers.{Answer}
use Rattle.std.specs.declared.result.Result.TheVariants.{Ok, Err}
use Rattle.answers.specs.Answers.{refusal_number, ◌else◌, in_order}
use Rattle.pages.specs.Pages.{slots_of, check_page}
use Rattle.listing_text.specs.Ascii.{ascii}

-- "all in decimal": the digits of n, at most `most` of them, the last after the rest; 48 is the byte of `0`
abbrev pub digits : ℕ → ℕ → Bytes
digits zero n = []
digits (suc most) n = cond (ltb n 10) [] (digits most (n / 10)) ++ ((48 + n % 10) ∷ [])

-- a number takes no more digits than it is large, and one
unfoldable pub decimal : ℕ → Bytes
decimal n = digits (suc n) n

-- "a negative offset with `-`"
unfoldable pub decimal_ℤ : ℤ → Bytes
decimal_ℤ (pos n) = decimal n
decimal_ℤ (negsuc n) = ascii "-" ++ decimal (suc n)

-- "position.node.sequence.offset"
unfoldable pub tuple_text : Tuple → Bytes
tuple_text t =
    decimal t.position ++ ascii "." ++ decimal t.node ++ ascii "." ++ decimal t.sequence ++ ascii "."
    ++ decimal_ℤ t.offset

-- "the tuples .. joined by `/`"
unfoldable pub name_text : Row → Bytes
name_text [] = []
name_text (t ∷ []) = tuple_text t
name_text (t ∷ u ∷ a) = tuple_text t ++ ascii "/" ++ name_text (u ∷ a)

-- "per slot: line number, depth, and the tuples .., each line ended by one newline"
unfoldable pub line_text : Slot → Bytes
line_text x = decimal x.line ++ ascii " " ++ decimal (length x.name) ++ ascii " " ++ name_text x.name ++ ascii "\n"

-- "the fixed line `line depth name`"
abbrev pub header : Bytes
header = ascii "line depth name\n"

abbrev pub lines_text : List Slot → Bytes
lines_text [] = []
lines_text (x ∷ l) = line_text x ++ lines_text l

abbrev pub book_text : List Slot → Bytes
book_text l = header ++ lines_text l

-- ── what the program writes ──

-- "A bad page gives only the line `refused 1` or `refused 2`"
unfoldable pub refused_text : ℕ → Bytes
refused_text n = ascii "refused " ++ decimal n ++ ascii "\n"

-- the lines of an accepted page, or the number of the refusal
abbrev pub answer_text : Answer → Bytes → Bytes
answer_text (Ok n) page = book_text (slots_of page)
answer_text (Err r) page = refused_text (refusal_number r)

-- "input above 26,624 bytes is `refused 1`" (02, P8: "a page is at most 51,200 bytes"): rest is what comes after as many bytes as the
-- largest page has
abbrev pub check_input : Bytes → Bytes → Answer
check_input page rest = in_order (eqb (length rest) 0 else BadLayout ∷ []) Err (check_page page)

unfoldable pub listing : Bytes → Bytes → Bytes
listing page rest = answer_text (check_input page rest) page

-- ── the most bytes that a text takes ──

-- a u32, and an i32 with its minus
abbrev pub number_room : ℕ
number_room = 10

abbrev pub offset_room : ℕ
offset_room = 1 + number_room

-- three numbers with a `.` after each, and the offset
abbrev pub tuple_room : ℕ
tuple_room = 3 * (number_room + 1) + offset_room

-- two numbers with a space after each, and `limit` tuples with a `/` or, the last, the newline after each
abbrev pub line_room : ℕ
line_room = 2 * (number_room + 1) + limit * (tuple_room + 1)
