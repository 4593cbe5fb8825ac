-- A pass along the slots of a page that tells layout and order at once: what is told of the slots that are left (`told`), from slot to slot
-- (`told_turn`), and that it is the layout and the order of all (`told_all`). Assumes nothing.
use mathlib.Core.Path.{◌≡◌, refl, ◌∙◌, sym, ap}
use mathlib.Core.List.{List, [], ◌∷◌, ◌++◌, map}
use mathlib.Core.Bool.{Bool, true, false, ◌&&◌, and-true, and-false}
use Prim.Native.Nat.{ℕ, ◌<◌, ◌≤◌}
use native.Mathlib.Omega.{arith}
use lib.ListN.{length, take, drop, length-append}
use lib.Seq.{take_at, drop_at}
use Rattle.names.specs.Ordering.{Row, compare_rows, rising}
use Rattle.std.specs.Ordering.{is_lt}
use Rattle.names.specs.Names.{is_name}
use Rattle.numbers.specs.Bytes.{Bytes}
use Rattle.std.specs.List.{list_all}
use Rattle.slots.specs.declared.Seen.{Seen}
use Rattle.slots.specs.declared.Seen.TheVariants.{Broken, NotRising, Rising}
use Rattle.slots.specs.Slots.{size_over, name_over, slot_over, keeps_over}
use Rattle.slots.specs.Looks.{seen, seen_after}
use Rattle.slots.proofs.LookedAt.{tells_falling, tells_rising, keeps_name}
use Rattle.pages.specs.Pages.{name_in, parts_over, names_over}
use Rattle.numbers.proofs.Parts.{parts_first, parts_none}
use Rattle.pages.proofs.SlotBySlot.{rising_cons, rising_one, rising_none}

-- the names of slots
abbrev names : ℕ → List Bytes → List Row
names room l = map name_in (map (slot_over room) l)

-- by what a look at one slot tells: what is told of the rest where its name rises, and where it does not
abbrev step : Seen → Seen → Seen → Seen
step Broken x y = Broken
step NotRising x y = y
step Rising x y = x

-- of the slots l after the name a, where b says whether the names so far rise
abbrev pub told : ℕ → Bool → Row → List Bytes → Seen
told room b a [] = seen true b
told room b a (s ∷ l) = step (seen_after room a s) (told room b (name_over room s) l) (told room false (name_over room s) l)

-- ── all of them ──

step_is : (k o b v e : Bool) → step (seen k o) (seen e (b && v)) (seen e false) ≡ seen (k && e) (b && (o && v))
step_is false o b v e = refl
step_is true true b v e = refl
step_is true false b v e = ap (seen e) (sym (and-false b))

told_is : (room : ℕ) (b : Bool) (a : Row) (l : List Bytes) → told room b a l ≡ seen (list_all (keeps_over room) l) (b && rising (a ∷ names room l))
told_is room b a [] = ap (seen true) (sym (ap (λ (r : Bool). b && r) (rising_one a) ∙ and-true b))
told_is room b a (s ∷ l) =
    let x = name_over room s in
    let e = list_all (keeps_over room) l in
    let k = keeps_over room s in
    let o = is_lt (compare_rows a x) in
    (λ i. step (seen k o) (told_is room b x l i) (told_is room false x l i))
    ∙ step_is k o b (rising (x ∷ names room l)) e
    ∙ ap (λ (r : Bool). seen (k && e) (b && r)) (sym (rising_cons a x (names room l)))

-- a name is above the row of no tuples
above_none : (a : Row) → is_name a ≡ true → is_lt (compare_rows [] a) ≡ true
unfolding is_name compare_rows
above_none [] e = e
above_none (t ∷ a) e = refl

after_none : (k e o r : Bool) → (k ≡ true → o ≡ true) → seen (k && e) (o && r) ≡ seen (k && e) r
after_none false e o r f = refl
after_none true e o r f = ap (λ (b : Bool). seen e (b && r)) (f refl)

told_all : (room : ℕ) (l : List Bytes) → told room true [] l ≡ seen (list_all (keeps_over room) l) (rising (names room l))
told_all room [] = ap (seen true) (sym rising_none)
told_all room (s ∷ l) =
    let x = name_over room s in
    let k = keeps_over room s in
    let e = list_all (keeps_over room) l in
    told_is room true [] (s ∷ l)
    ∙ ap (seen (k && e)) (rising_cons [] x (names room l))
    ∙ after_none k e (is_lt (compare_rows [] x)) (rising (x ∷ names room l)) (λ h. above_none x (keeps_name room s h))

-- ── slot by slot ──

pub told_first : (room : ℕ) (s : Bytes) → told room true [] (parts_over room s) ≡ seen (list_all (keeps_over room) (parts_over room s)) (rising (names_over room s))
told_first room s = told_all room (parts_over room s)

module _ (room : ℕ) (b : Bool) (a : Row) (s : Bytes) where
  -- the first of the slots s, and what comes after it
  module _ (slot after : Bytes) (e : s ≡ slot ++ after) (l : length slot ≡ size_over room) where
    abbrev rest : List Bytes
    rest = parts_over room after

    pub long : size_over room ≤ length s
    long = omega (arith, ap length e ∙ length-append slot after)

    first_is : parts_over room s ≡ slot ∷ rest
    first_is =
        parts_first (size_over room) s (omega arith) long
        ∙ (λ i. take (size_over room) (e i) ∷ parts_over room (drop (size_over room) (e i)))
        ∙ (λ i. take_at slot after (size_over room) l i ∷ parts_over room (drop_at slot after (size_over room) l i))

    -- a look at it tells o
    pub told_turn : {o : Seen} → o ≡ seen_after room a slot → step o (told room b (name_over room slot) rest) (told room false (name_over room slot) rest) ≡ told room b a (parts_over room s)
    told_turn f = (λ i. step (f i) (told room b (name_over room slot) rest) (told room false (name_over room slot) rest)) ∙ sym (ap (told room b a) first_is)

    -- it keeps its layout, and the pass goes on with c for b
    abbrev pub GoesOn : Bool → Type 0
    GoesOn c = (keeps_over room slot ≡ true) × (told room c (name_over room slot) rest ≡ told room b a (parts_over room s))

    abbrev above : Bool
    above = is_lt (compare_rows a (name_over room slot))

    pub falls : (c : Bool) → NotRising ≡ seen_after room a slot → c ≡ false → GoesOn c
    falls c f g = ((tells_falling (keeps_over room slot) above f).0, ap (λ (d : Bool). told room d (name_over room slot) rest) g ∙ told_turn f)

    pub climbs : (c : Bool) → Rising ≡ seen_after room a slot → c ≡ b → GoesOn c
    climbs c f g = ((tells_rising (keeps_over room slot) above f).0, ap (λ (d : Bool). told room d (name_over room slot) rest) g ∙ told_turn f)

  pub told_last : length s < size_over room → seen true b ≡ told room b a (parts_over room s)
  told_last h = sym (ap (told room b a) (parts_none (size_over room) s h))
