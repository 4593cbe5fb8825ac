-- Where the place of a name divides the groups of a form (`divides`): those whose first name is not above it, and those after them. Assumes
-- nothing.
use mathlib.Core.Path.{◌≡◌, refl, ◌∙◌, sym, ap, subst}
use mathlib.Core.List.{List, [], ◌∷◌, ◌++◌, append-nil, append_assoc}
use mathlib.Core.Bool.{Bool, true, false, cond}
use Prim.Native.Nat.{ℕ, ◌+◌}
use native.Mathlib.Omega.{arith}
use lib.ListN.{length, length-append}
use Rattle.std.specs.declared.cmp.Ordering.{Ordering}
use Rattle.std.specs.declared.cmp.Ordering.TheVariants.{Less, Equal, Greater}
use Rattle.names.specs.Ordering.{Row, compare_rows, ◌<ⁿ◌}
use Rattle.names.proofs.Laws.{more_row}
use Rattle.numbers.proofs.Bools.{yes_no}
use Rattle.groups.specs.Groups.{Group}
use Rattle.groups.specs.Forms.{group_bytes, form_bytes}
use Rattle.groups.proofs.FormInverse.{form_none, form_more, form_append}
use Rattle.forms.specs.declared.Place.{Place}
use Rattle.forms.specs.Blocks.{nowhere, sought, sought_from}
use Rattle.std.specs.Ordering.{is_le}

-- the first of the groups, where there is one, begins above x
abbrev pub FirstAbove : Row → List Group → Type 0
FirstAbove x [] = Unit {0}
FirstAbove x (h ∷ hs) = x <ⁿ h.first

-- the group before the last of fs and g: where it begins
pub data Preceded (fs : List Group) (before : ℕ) : Type 0 where
  first : fs ≡ [] → Preceded fs before
  second : (es : List Group) (f : Group) → fs ≡ es ++ (f ∷ []) → before ≡ length (form_bytes es) → Preceded fs before

-- of the groups that were passed the last is g, after fs
pub record Reached (x : Row) (fs : List Group) (g : Group) (p : Place) : Type 0 where
  pub count : p.groups ≡ length fs + 1
  pub here : p.here ≡ length (form_bytes fs)
  pub before : Preceded fs p.before
  pub low : is_le (compare_rows g.first x) ≡ true

pub data Divided (x : Row) (gs : List Group) (p : Place) : Type 0 where
  none : p.groups ≡ 0 → FirstAbove x gs → Divided x gs p
  some : (fs : List Group) (g : Group) (hs : List Group) → gs ≡ fs ++ (g ∷ hs) → Reached x fs g p → FirstAbove x hs → Divided x gs p

-- what has been passed so far
data Passing (x : Row) (fs : List Group) (p : Place) : Type 0 where
  start : fs ≡ [] → p.groups ≡ 0 → Passing x fs p
  at : (es : List Group) (g : Group) → fs ≡ es ++ (g ∷ []) → Reached x es g p → Passing x fs p

is_above_lem : (a x : Row) → is_le (compare_rows a x) ≡ false → x <ⁿ a
is_above_lem a x e = more_row a x (go (compare_rows a x) e)
  where
    go : (o : Ordering) → is_le o ≡ false → o ≡ Greater
    go Less e = yes_no refl e
    go Equal e = yes_no refl e
    go Greater e = refl

-- one group further, which begins at q; and no further
abbrev on : Place → ℕ → Place
on p q = record { sought = true; groups = p.groups + 1; here = q; before = p.here }

abbrev off : Place → Place
off p = record { sought = false; groups = p.groups; here = p.here; before = p.before }

still : (x : Row) (q : ℕ) (p : Place) (gs : List Group) → p.sought ≡ false → sought_from x q p gs ≡ p
still x q p [] e = refl
still x q p (g ∷ gs) e =
    let s : sought x q g.first p ≡ p = go p.sought e in
    ap (λ (r : Place). sought_from x (q + length (group_bytes g)) r gs) s ∙ still x (q + length (group_bytes g)) p gs e
  where
    go : (b : Bool) → b ≡ false → cond b (cond (is_le (compare_rows g.first x)) (on p q) (off p)) p ≡ p
    go true e = yes_no refl e
    go false e = refl

module _ (x : Row) where
  -- the groups that are left begin above x
  ended : (fs gs : List Group) (p : Place) → Passing x fs p → FirstAbove x gs → Divided x (fs ++ gs) p
  ended fs gs p (start e n) h = none n (subst (λ (l : List Group). FirstAbove x (l ++ gs)) (sym e) h)
  ended fs gs p (at es g e r) h = some es g gs (ap (λ (l : List Group). l ++ gs) e ∙ append_assoc es (g ∷ []) gs) r h

  longer : (fs : List Group) (g : Group) → length (form_bytes fs) + length (group_bytes g) ≡ length (form_bytes (fs ++ (g ∷ [])))
  longer fs g =
      let one = form_more g [] ∙ ap (λ (s : List ℕ). group_bytes g ++ s) form_none ∙ append-nil (group_bytes g) in
      sym (ap length (form_append fs (g ∷ []) ∙ ap (λ (s : List ℕ). form_bytes fs ++ s) one) ∙ length-append (form_bytes fs) (group_bytes g))

  step : (fs : List Group) (g : Group) (p : Place) → Passing x fs p → is_le (compare_rows g.first x) ≡ true
      → Passing x (fs ++ (g ∷ [])) (on p (length (form_bytes fs)))
  step fs g p (start e n) l = at fs g refl (record {
    count = let z = ap length e in omega arith;
    here = refl;
    before = first e;
    low = l;
  })
  step fs g p (at es f e r) l = at fs g refl (record {
    count = let c = r.count in let z = ap length e ∙ length-append es (f ∷ []) in omega arith;
    here = refl;
    before = second es f e r.here;
    low = l;
  })

  along : (fs gs : List Group) (q : ℕ) (p : Place) → q ≡ length (form_bytes fs) → p.sought ≡ true → Passing x fs p → Divided x (fs ++ gs) (sought_from x q p gs)
  along fs [] q p e s v = ended fs [] p v tt
  along fs (g ∷ gs) q p e s v = go (is_le (compare_rows g.first x)) refl (λ w. along (fs ++ (g ∷ [])) gs (q + length (group_bytes g)) (on p q) (ap (λ (n : ℕ). n + length (group_bytes g)) e ∙ longer fs g) refl w)
    where
      all : (fs ++ (g ∷ [])) ++ gs ≡ fs ++ (g ∷ gs)
      all = append_assoc fs (g ∷ []) gs

      is : (b : Bool) → is_le (compare_rows g.first x) ≡ b → sought x q g.first p ≡ cond b (on p q) (off p)
      is b f = ap (λ (c : Bool). cond c (cond (is_le (compare_rows g.first x)) (on p q) (off p)) p) s ∙ ap (λ (c : Bool). cond c (on p q) (off p)) f

      kept : Passing x fs p → Passing x fs (off p)
      kept (start a n) = start a n
      kept (at es h a r) = at es h a (record { count = r.count; here = r.here; before = r.before; low = r.low })

      go :
          (b : Bool) → is_le (compare_rows g.first x) ≡ b →
          (Passing x (fs ++ (g ∷ [])) (on p q) → Divided x ((fs ++ (g ∷ [])) ++ gs) (sought_from x (q + length (group_bytes g)) (on p q) gs)) →
          Divided x (fs ++ (g ∷ gs)) (sought_from x q p (g ∷ gs))
      go true f k =
          let w : Passing x (fs ++ (g ∷ [])) (on p q) = subst (λ (n : ℕ). Passing x (fs ++ (g ∷ [])) (on p n)) (sym e) (step fs g p v f) in
          let d = k w in
          let d' = subst (λ (l : List Group). Divided x l (sought_from x (q + length (group_bytes g)) (on p q) gs)) all d in
          subst (λ (r : Place). Divided x (fs ++ (g ∷ gs)) (sought_from x (q + length (group_bytes g)) r gs)) (sym (is true f)) d'
      go false f k =
          let same : sought_from x q p (g ∷ gs) ≡ off p =
          ap (λ (r : Place). sought_from x (q + length (group_bytes g)) r gs) (is false f) ∙ still x (q + length (group_bytes g)) (off p) gs refl in
          subst (Divided x (fs ++ (g ∷ gs))) (sym same) (ended fs (g ∷ gs) (off p) (kept v) (is_above_lem g.first x f))

  pub divides : (gs : List Group) → Divided x gs (sought_from x 0 nowhere gs)
  divides gs = along [] gs 0 nowhere (sym (ap length form_none)) refl (start refl refl)
