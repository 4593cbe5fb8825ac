-- Adding an entry at the end of a table. A table with an entry that may be added is a table (`added_table`); the routes, paths and
-- comparisons of its epochs are as before (`added_route`, `added_path`, `added_compare`); the new epoch's route and path are its
-- parent's and one more (`new_route`, `new_path`); the target is as before, or it is the new epoch, which is then greater (`added_target`,
-- `new_target`). Assumes nothing.
use mathlib.Core.Path.{◌≡◌, refl, sym, ap, ◌∙◌}
use mathlib.Core.Logic.{◌⊎◌, inl, inr}
use mathlib.Core.List.{List, [], ◌∷◌, ◌++◌, map, map-append}
use mathlib.Core.Bool.{true, cond}
use Prim.Native.Nat.{ℕ, zero, suc, ◌+◌, ◌-◌, ◌<◌, ◌≤◌}
use native.Mathlib.Omega.{arith}
use lib.ListN.{length, length-append, get_or-append, get_or-eq_default}
use lib.Seq.{get_or-append_seam}
use Rattle.std.specs.declared.cmp.Ordering.{Ordering}
use Rattle.std.specs.declared.cmp.Ordering.TheVariants.{Less, Equal, Greater}
use Rattle.std.specs.Ordering.{is_lt}
use Rattle.names.proofs.Laws.{ℕ_cases}
use Rattle.numbers.proofs.Bools.{yes_no}
use Rattle.epoch_tree.specs.Tables.{Entry, zero_entry, entry_at, is_count, is_table, added}
use Rattle.epoch_tree.specs.Tree.{parent_of, route_within, route, path, compare_paths, compare_epochs, Smaller, greatest_to, greater, target}
use Rattle.epoch_tree.specs.Laws.{Addable}
use Rattle.epoch_tree.proofs.TableFacts.{Table, is_table_lem, not_listed, pair_same}
use Rattle.epoch_tree.proofs.Routes.{route_suc, path_suc}
use Rattle.epoch_tree.proofs.OrderAndTarget.{greatest_in}

module _ (t : List Entry) (h : Table t) (e : Entry) where
  -- ── the epochs of the table ──

  pub added_length : length (added t e) ≡ suc (length t)
  added_length = let k : length (t ++ (e ∷ [])) ≡ length t + 1 = length-append t (e ∷ []) in omega arith

  pub added_entry : (i : ℕ) → i < length t → entry_at (added t e) i ≡ entry_at t i
  added_entry i l = get_or-append t (e ∷ []) zero_entry i l

  pub new_entry : entry_at (added t e) (length t) ≡ e
  new_entry = get_or-append_seam t e [] zero_entry

  added_parent : (i : ℕ) → i < length t → parent_of (added t e) i ≡ parent_of t i
  added_parent i l = ap (λ (x : Entry). x.parent) (added_entry i l)

  route_kept : (b i : ℕ) → i < length t → route_within b (added t e) i ≡ route_within b t i
  route_kept zero i l = refl
  route_kept (suc b) zero l = refl
  route_kept (suc b) (suc i) l =
      let k : parent_of t (suc i) ≤ i = h.parent i in
      ap (λ (r : List ℕ). r ++ (suc i ∷ [])) (ap (route_within b (added t e)) (added_parent (suc i) l) ∙ route_kept b (parent_of t (suc i)) (omega arith))

  pub added_route : (i : ℕ) → i < length t → route (added t e) i ≡ route t i
  added_route i l = route_kept i i l

  entries_kept : (b i : ℕ) → i < length t → map (entry_at (added t e)) (route_within b t i) ≡ map (entry_at t) (route_within b t i)
  entries_kept zero i l = ap (λ (x : Entry). x ∷ []) (added_entry i l)
  entries_kept (suc b) zero l = ap (λ (x : Entry). x ∷ []) (added_entry 0 l)
  entries_kept (suc b) (suc i) l =
      let k : parent_of t (suc i) ≤ i = h.parent i in
      map-append (entry_at (added t e)) (route_within b t (parent_of t (suc i))) (suc i ∷ [])
      ∙ (λ z. entries_kept b (parent_of t (suc i)) (omega arith) z ++ (added_entry (suc i) l z ∷ []))
      ∙ sym (map-append (entry_at t) (route_within b t (parent_of t (suc i))) (suc i ∷ []))

  pub added_path : (i : ℕ) → i < length t → path (added t e) i ≡ path t i
  added_path i l = ap (map (entry_at (added t e))) (added_route i l) ∙ entries_kept i i l

  pub added_compare : (i j : ℕ) → i < length t → j < length t → compare_epochs (added t e) i j ≡ compare_epochs t i j
  added_compare i j a b = λ z. compare_paths (added_path i a z) (added_path j b z)

  -- ── the new epoch ──

  module _ (m : Addable t e) where
    -- entry i of the new table, whose index is told to be that of the new entry
    new_at : (i : ℕ) → i ≡ length t → entry_at (added t e) i ≡ e
    new_at i q = ap (entry_at (added t e)) q ∙ new_entry

    -- what holds of each entry but entry 0, and of the new one
    each_at :
        (P : Entry → Type 0) → ((i : ℕ) → suc i < length t → P (entry_at t (suc i))) → P e →
        (i : ℕ) → suc i < length (added t e) → P (entry_at (added t e) (suc i))
    each_at P f p i l = elim (ℕ_cases (suc i) (length t)) [
      | inl k ↦ rw (added_entry (suc i) k) (f i k)
      | inr r ↦ elim r [
        | inl k ↦ rw (new_at (suc i) k) p
        | inr k ↦ absurd (let q = added_length in omega arith)
      ]
    ]

    parent_at : (i : ℕ) → parent_of (added t e) (suc i) ≤ i
    parent_at i = elim (ℕ_cases (suc i) (length t)) [
      | inl k ↦ let q = added_parent (suc i) k in let p : parent_of t (suc i) ≤ i = h.parent i in omega arith
      | inr r ↦ elim r [
        | inl k ↦
            let q : parent_of (added t e) (suc i) ≡ e.parent = ap (λ (x : Entry). x.parent) (new_at (suc i) k) in
            let p : e.parent < length t = m.in_table in
            omega arith
        | inr k ↦
            let w = added_length in
            let past : entry_at (added t e) (suc i) ≡ zero_entry = get_or-eq_default (added t e) zero_entry (omega arith) in
            let q : parent_of (added t e) (suc i) ≡ 0 = ap (λ (x : Entry). x.parent) past in
            omega arith
      ]
    ]

    new_pair : (i : ℕ) → i < length t → e.node ≡ (entry_at t i).node → e.sequence ≡ (entry_at t i).sequence → ⊥
    new_pair i l a b = yes_no (pair_same e (entry_at t i) a b) (not_listed e t i m.unlisted l)

    pair_at :
        (i j : ℕ) → i < j → j < length (added t e) → (entry_at (added t e) j).node ≡ (entry_at (added t e) i).node →
        (entry_at (added t e) j).sequence ≡ (entry_at (added t e) i).sequence → ⊥
    pair_at i j l k = elim (ℕ_cases j (length t)) [
      | inl g ↦ rw (added_entry i (omega arith), added_entry j g) (h.pair i j l g)
      | inr r ↦ elim r [
        | inl g ↦ let q : i < length t = omega arith in rw (added_entry i q, new_at j g) (new_pair i q)
        | inr g ↦ absurd (let q = added_length in omega arith)
      ]
    ]

    pub table_added : Table (added t e)
    table_added = record {
      some = let q = added_length in omega arith;
      few = let q = added_length in let p : length t < 32 = m.has_room in omega arith;
      first = added_entry 0 h.some ∙ h.first;
      node = each_at (λ (x : Entry). 1 ≤ x.node) h.node m.has_node;
      count = each_at (λ (x : Entry). is_count x.count ≡ true) h.count m.has_count;
      parent = parent_at;
      pair = pair_at;
    }

    -- "adding keeps a table a table"
    pub added_table : is_table (added t e) ≡ true
    added_table = is_table_lem (added t e) table_added

    new_parent : (i : ℕ) → i ≡ length t → parent_of (added t e) i ≡ e.parent
    new_parent i q = ap (λ (x : Entry). x.parent) (new_at i q)

    route_at : (i : ℕ) → i ≡ length t → route (added t e) i ≡ route t e.parent ++ (i ∷ [])
    route_at zero q = absurd (let k : 0 < length t = h.some in omega arith)
    route_at (suc i) q =
        route_suc (added t e) table_added i
        ∙ ap (λ (r : List ℕ). r ++ (suc i ∷ [])) (ap (route (added t e)) (new_parent (suc i) q) ∙ added_route e.parent m.in_table)

    -- the parent's route, and the new index
    pub new_route : route (added t e) (length t) ≡ route t e.parent ++ (length t ∷ [])
    new_route = route_at (length t) refl

    path_at : (i : ℕ) → i ≡ length t → path (added t e) i ≡ path t e.parent ++ (e ∷ [])
    path_at zero q = absurd (let k : 0 < length t = h.some in omega arith)
    path_at (suc i) q =
        path_suc (added t e) table_added i
        ∙ (λ z. (ap (path (added t e)) (new_parent (suc i) q) ∙ added_path e.parent m.in_table) z ++ (new_at (suc i) q z ∷ []))

    -- the parent's path, and the new entry
    pub new_path : path (added t e) (length t) ≡ path t e.parent ++ (e ∷ [])
    new_path = path_at (length t) refl

    -- ── the target ──

    greatest_kept : (n : ℕ) → n < length t → greatest_to (added t e) n ≡ greatest_to t n
    greatest_kept zero l = refl
    greatest_kept (suc n) l =
        let k : greatest_to t n ≤ n = greatest_in t h n in
        ap (λ (g : ℕ). greater (added t e) g (suc n)) (greatest_kept n (omega arith))
        ∙ ap (λ (o : Ordering). cond (is_lt o) (suc n) (greatest_to t n)) (added_compare (greatest_to t n) (suc n) (omega arith) l)

    greatest_at : (i : ℕ) → i ≡ length t → greatest_to (added t e) i ≡ greater (added t e) (target t) i
    greatest_at zero q = absurd (let k : 0 < length t = h.some in omega arith)
    greatest_at (suc i) q =
        let p : i ≡ length t - 1 = omega arith in
        ap (λ (g : ℕ). greater (added t e) g (suc i)) (greatest_kept i (omega arith) ∙ ap (greatest_to t) p)

    -- the greater of the target before and the new epoch
    pub added_target : target (added t e) ≡ greater (added t e) (target t) (length t)
    added_target =
        let p : length (added t e) - 1 ≡ length t = let q = added_length in omega arith in
        ap (greatest_to (added t e)) p ∙ greatest_at (length t) refl

    -- the target is as before, or it is the new epoch, which is then greater
    pub new_target : (target (added t e) ≡ target t) ⊎ ((target (added t e) ≡ length t) × Smaller (added t e) (target t) (length t))
    new_target = go (compare_epochs (added t e) (target t) (length t)) refl added_target
      where
        go :
            (o : Ordering) →
            compare_epochs (added t e) (target t) (length t) ≡ o →
            target (added t e) ≡ cond (is_lt o) (length t) (target t) →
            (target (added t e) ≡ target t) ⊎ ((target (added t e) ≡ length t) × Smaller (added t e) (target t) (length t))
        go Less s q = inr (q, s)
        go Equal s q = inl q
        go Greater s q = inl q
