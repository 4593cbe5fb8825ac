-- The laws of specs/Heard.antt hold (`laws`). Assumes nothing.
use mathlib.Core.Path.{◌≡◌, sym, ap, subst, ◌∙◌}
use mathlib.Core.List.{List, map}
use mathlib.Core.Bool.{true, ◌&&◌}
use Prim.Native.Nat.{ℕ, ◌+◌, ◌/◌, ◌<◌, ◌≤◌}
use native.Mathlib.Omega.{arith}
use borrow.Author.Tests.{leb-true, le-leb}
use lib.Dec.{leb}
use lib.ListN.{length}
use Rattle.names.specs.declared.Author.{Author}
use Rattle.std.specs.declared.cmp.Ordering.TheVariants.{Equal}
use Rattle.names.specs.Ordering.{Row, compare_tuples}
use Rattle.names.proofs.Laws.{tuple_same}
use Rattle.numbers.specs.Bytes.{Bytes}
use Rattle.numbers.proofs.Bools.{and_0}
use Rattle.std.specs.declared.result.Result.TheVariants.{Ok}
use Rattle.answers.specs.Answers.{Outcome}
use Rattle.slots.specs.Slots.{Slot}
use Rattle.pages.specs.Pages.{max_slots, name_in}
use Rattle.messages.specs.declared.Numbers.{Numbers}
use Rattle.messages.specs.Messages.{most_names, names_in, numbers_in, parts_in, keeps_message}
use Rattle.messages.specs.Calls.{numbers_read}
use Rattle.messages.proofs.Laws as messages
use Rattle.messages.proofs.TestsPassed.{Good, good}
use Rattle.messages.proofs.BareSlots.{names_bare}
use Rattle.messages.proofs.CallsInverse.{read_is}
use Rattle.epoch_tree.specs.Tables.{Entry, entry_size, entries_of, is_count, is_table, keeps_table, added}
use Rattle.epoch_tree.specs.Tree.{compare_keys}
use Rattle.epoch_tree.specs.Laws.{SameEpochs, Addable}
use Rattle.epoch_tree.proofs.Laws as tables
use Rattle.epoch_tree.proofs.TableBytes.{length_entries, entries_table}
use Rattle.epoch_tree.proofs.OrderAndTarget.{key_tuple, keys_tuples}
use Rattle.epochs.specs.Calls.{entry_by}
use Rattle.epochs.proofs.Laws as calls
use Rattle.epochs.proofs.AddOutcomes.{done, adds}
use Rattle.message_epochs.specs.Heard.{Reads, author_read, Counted, Suffices, Alike, Hears, Agree, Laws}

-- ── one unit ──

module _ (s : Bytes) (room n : ℕ) (h : Reads s room n) where
  kept : keeps_message s ≡ true
  kept = ((((messages.laws).read s room).accepted n).0 h.accepted).0

  names_counted : n ≡ length (names_in s)
  names_counted = ((((messages.laws).read s room).accepted n).0 h.accepted).2

  numbers_are : numbers_read s room ≡ numbers_in s
  numbers_are = ((messages.laws).read s room).numbers_accepted n h.accepted

  parts_good : Good (parts_in s)
  parts_good = good (parts_in s) ((messages.laws).inverse.parts_message s kept)

  -- a rename has at most as many names as a page has slots
  most : most_names (numbers_in s).kind ≡ max_slots
  most = ap most_names (sym (ap (λ (x : Numbers). x.kind) numbers_are) ∙ h.kind)

  is_count_lem : is_count n ≡ true
  is_count_lem =
      let g = parts_good in
      let a : 1 ≤ length (names_in s) = g.some in
      let b : length (names_in s) ≤ most_names (numbers_in s).kind = g.few in
      let c = names_counted in
      let m = most in
      λ i. le-leb 1 n (omega arith) i && le-leb n max_slots (omega arith) i

  has_node : 1 ≤ (author_read s room).node
  has_node =
      let author = (numbers_in s).author in
      let e : (author_read s room).node ≡ author.node = ap (λ (x : Numbers). x.author.node) numbers_are in
      let in-range = and_0 (leb 1 author.node && leb author.node 65535) (leb author.sequence 4294967295) parts_good.author in
      let k : 1 ≤ author.node = leb-true 1 author.node (and_0 (leb 1 author.node) (leb author.node 65535) in-range) in
      omega arith

  counted : Counted s room n
  counted = record {
    log = ((messages.laws).read s room).log n h.accepted;
    names = ap (λ (l : List Row). length l) (ap (λ (l : List Slot). map name_in l) (((messages.laws).read s room).slots n h.accepted) ∙ names_bare (names_in s)) ∙ sym names_counted;
    is_count_lem = is_count_lem;
    has_node = has_node;
  }

  suffices : Suffices s room n
  suffices table parent out octets k p l f r =
      let c = length_entries table in
      let q : parent < length table / entry_size = omega arith in
      let room-left : length table / entry_size < 32 = omega arith in
      ap (λ (x : Outcome). x.answer) (done table parent (author_read s room) n out k q has_node is_count_lem l room-left octets r)
      ∙ ap (λ (m : ℕ). Ok (m + 1)) (sym c)

-- ── two units ──

alike : (s : Bytes) (room n room' n' : ℕ) → Reads s room n → Reads s room' n' → Alike s room n room' n'
alike s room n room' n' h k =
    let numbers = numbers_are s room n h ∙ sym (numbers_are s room' n' k) in
    record {
      count = names_counted s room n h ∙ sym (names_counted s room' n' k);
      author = ap (λ (x : Numbers). x.author) numbers;
      epoch = ap (λ (x : Numbers). x.epoch) numbers;
      log = ap (λ (x : Outcome). x.bytes) (read_is s room n h.accepted ∙ sym (read_is s room' n' k.accepted));
    }

-- entries of one author and one count have one key, whatever their parents
one_key : (a b : Author) (i j n m : ℕ) → a ≡ b → n ≡ m → compare_keys (entry_by a i n) (entry_by b j m) ≡ Equal
one_key a b i j n m p q =
    keys_tuples (entry_by a i n) (entry_by b j m)
    ∙ (λ z. compare_tuples (key_tuple (entry_by (p z) i (q z))) (key_tuple (entry_by b j m)))
    ∙ tuple_same (key_tuple (entry_by b j m))

-- a unit that heard of the rename had a table, and has one with the author's entry more
record Added (s table second : Bytes) (h : Hears s table second) : Type 0 where
  before : is_table (entries_of table) ≡ true
  after : is_table (entries_of second) ≡ true
  addable : Addable (entries_of table) (entry_by (author_read s h.room) h.parent h.n)
  one_more : entries_of second ≡ added (entries_of table) (entry_by (author_read s h.room) h.parent h.n)

added_by : (s table second : Bytes) (h : Hears s table second) → Added s table second h
added_by s table second h =
    let author = author_read s h.room in
    let a = (calls.laws).adds table h.parent author h.n h.out h.m h.accepted in
    let kept = (adds table h.parent author h.n h.out h.m h.accepted).kept in
    record {
      before = entries_table table kept;
      after = entries_table second (subst (λ (x : Bytes). keeps_table x ≡ true) h.second_is a.second_table);
      addable = a.addable;
      one_more = ap entries_of (sym h.second_is) ∙ a.one_more;
    }

agree :
    (s table second table' second' : Bytes) → Hears s table second → Hears s table' second' →
    SameEpochs (entries_of table) (entries_of table') → Agree second second'
agree s table second table' second' h k same =
    let a = added_by s table second h in
    let b = added_by s table' second' k in
    let both = alike s h.room h.n k.room k.n h.reads k.reads in
    let t = entries_of table in
    let u = entries_of table' in
    let e = entry_by (author_read s h.room) h.parent h.n in
    let f = entry_by (author_read s k.room) k.parent k.n in
    let node = h.node ∙ ap (λ (x : Author). x.node) both.epoch ∙ sym k.node in
    let sequence = h.sequence ∙ ap (λ (x : Author). x.sequence) both.epoch ∙ sym k.sequence in
    let parents = (tables.laws).same_pair_lem t u a.before b.before same h.parent k.parent a.addable.in_table b.addable.in_table node sequence in
    let key = one_key (author_read s h.room) (author_read s k.room) h.parent k.parent h.n k.n both.author both.count in
    let more = (tables.laws).same_added t u a.before b.before same e f a.addable b.addable key parents in
    let epochs : SameEpochs (entries_of second) (entries_of second') =
    subst (λ (x : List Entry). SameEpochs x (entries_of second')) (sym a.one_more) (subst (SameEpochs (added t e)) (sym b.one_more) more) in
    record {
      epochs = epochs;
      targets = (tables.laws).same_target (entries_of second) (entries_of second') a.after b.after epochs.0 epochs.1;
    }

pub laws : Laws
laws = record { counted = counted; suffices = suffices; alike = alike; agree = agree }
