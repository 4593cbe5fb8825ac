-- What 7 is, as specs/Demand.antt states it: `seven`. Names that do not rise meet (`not_rising`), and names that meet do not rise
-- (`meet_rising`); what is asked after 1, 2, 3 and 4 is `asked_last`. Assumes nothing.
use mathlib.Core.Path.{◌≡◌, refl, ◌∙◌, sym, ap}
use mathlib.Core.List.{List, [], ◌∷◌, flatten}
use mathlib.Core.Bool.{Bool, true, false, ◌&&◌}
use Prim.Native.Nat.{ℕ, suc}
use native.Mathlib.Omega.{arith}
use lib.Dec.{leb, eqb}
use lib.ListN.{length}
use Rattle.names.specs.declared.Author.{Author}
use Rattle.std.specs.declared.cmp.Ordering.{Ordering}
use Rattle.names.specs.Ordering.{Row, compare_rows, rising, ◌<ⁿ◌, less, equal}
use Rattle.std.specs.Ordering.{is_lt}
use Rattle.numbers.proofs.Bools.{yes_no}
use Rattle.names.proofs.Laws.{Tri, below, level, above, tri_n, <ⁿ_irrefl, <≤_trans, rising_Rising}
use Rattle.name_renames.specs.Renaming.{take_back}
use Rattle.numbers.specs.Bytes.{Bytes}
use Rattle.answers.specs.Answers.{Outcome, number_of, ask, refuse, accept, write}
use Rattle.pages.specs.Pages.{slots_of, names_of, pieces}
use Rattle.answers.specs.Answers.{Answer}
use Rattle.std.specs.declared.result.Result.TheVariants.{Ok, Err}
use Rattle.answers.specs.declared.Refusal.TheVariants.{TooDeep, NotRisingBack, Short}
use Rattle.pages.proofs.FindByHalving.{index_below}
use Rattle.page_renames.specs.Renames.{carried, all_fit, take_back_outcome}
use Rattle.page_renames.proofs.Books.{take_back_by, Asked, asked}
use Rattle.histories.specs.Demand.{names_back, Meet, Seven}

-- ── names that meet ──

pub not_rising : (l : List Row) → rising l ≡ false → Meet l
unfolding rising
not_rising [] e = yes_no refl e
not_rising (a ∷ []) e = yes_no refl e
not_rising (a ∷ b ∷ l) e = go (compare_rows a b) (tri_n a b) e (λ q. not_rising (b ∷ l) q)
  where
    go : (o : Ordering) → Tri ◌<ⁿ◌ a b o → is_lt o && rising (b ∷ l) ≡ false → (rising (b ∷ l) ≡ false → Meet (b ∷ l)) → Meet (a ∷ b ∷ l)
    go _ (below h) q f = let t = f q in (suc t.0, omega (arith, t.1), t.2)
    go _ (level h) q f = (0, omega arith, equal (sym h))
    go _ (above h) q f = (0, omega arith, less h)

meet_rising : (l : List Row) → Meet l → rising l ≡ false
meet_rising l t = go (rising l) refl
  where
    go : (b : Bool) → rising l ≡ b → rising l ≡ false
    go false q = q
    go true q = absurd (<ⁿ_irrefl (<≤_trans (index_below (rising_Rising l q) t.0 (suc t.0) (omega arith) t.1) t.2))

-- ── 7 ──

-- an answer that is not 7
not_seven : {A : Type 0} (x : Answer) → eqb (number_of x) 7 ≡ false → x ≡ Err NotRisingBack → A
not_seven x h e = yes_no (ap (λ (a : Answer). eqb (number_of a) 7) e) h

-- what is asked after 1, 2, 3 and 4: whether all fit, whether they rise, whether there is room
abbrev answered : Bool → Bool → Bool → List Bytes → Outcome
answered a b c l = ask a (refuse TooDeep) (ask b (refuse NotRisingBack) (ask c (refuse Short) (accept l)))

abbrev pub asked_last : Bytes → Bytes → Author → ℕ → Outcome
asked_last page log author room =
    let g = take_back author (names_of log) in
    ask (all_fit g page) (refuse TooDeep) (ask (rising (names_back log author page)) (refuse NotRisingBack) (write (pieces (carried g (slots_of page))) room))

only_seven : (a b c : Bool) (l : List Bytes) → (answered a b c l).answer ≡ Err NotRisingBack → (a ≡ true) × (b ≡ false)
only_seven false b c l e = not_seven (Err TooDeep) refl e
only_seven true false c l e = (refl, refl)
only_seven true true false l e = not_seven (Err Short) refl e
only_seven true true true l e = not_seven (Ok (length l)) refl e

pub seven : Seven
unfolding take_back_outcome
seven =
    record {
      only = λ page log author room e.
          let g = take_back author (names_of log) in
          let l = pieces (carried g (slots_of page)) in
          let p = (asked page log author (asked_last page log author room) (Err NotRisingBack) refl e).1 in
          let q = only_seven (all_fit g page) (rising (names_back log author page)) (leb (length (flatten l)) room) l p in
          (q.0, not_rising (names_back log author page) q.1);
      always = λ page log author room k r l n t m.
          let v : Asked page log author = record { layout = k; rising = r; logged = l; node = n } in
          ap (λ (x : Outcome). x.answer) (take_back_by page log author v room) ∙ rw (t, meet_rising (names_back log author page) m);
    }
