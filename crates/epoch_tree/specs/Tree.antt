-- The epoch tree: document 01, "Epoch tree", with 02's P1, and 001, section 5.2. An epoch is the index of its entry in the table t.
use Rattle.std.specs.Prelude.{ℕ, zero, suc, ◌+◌, ◌-◌, ◌≡◌, List, [], ◌∷◌, ◌++◌, map, cond, length, eqb}
use Rattle.std.specs.declared.cmp.Ordering.{Ordering}
use Rattle.std.specs.declared.cmp.Ordering.TheVariants.{Less, Equal, Greater}
use Rattle.names.specs.Ordering.{compare_ℕ}
use Rattle.std.specs.Ordering.{ordering_then, is_lt}
use Rattle.epoch_tree.specs.declared.Step.{Step}
use Rattle.epoch_tree.specs.declared.Step.TheVariants.{Stay, Up, Down}
use Rattle.epoch_tree.specs.Tables.{Entry, entry_at}

abbrev pub parent_of : List Entry → ℕ → ℕ
parent_of t i = (entry_at t i).parent

-- ── paths ──

-- "traced back through parents, each with a smaller index": at most as many times as the bound says. The indices from 0 to i.
abbrev pub route_within : ℕ → List Entry → ℕ → List ℕ
route_within zero t i = i ∷ []
route_within (suc b) t zero = 0 ∷ []
route_within (suc b) t (suc i) = route_within b t (parent_of t (suc i)) ++ (suc i ∷ [])

-- the index bounds the number of its ancestors
abbrev pub route : List Entry → ℕ → List ℕ
route t i = route_within i t i

-- "An epoch's path runs from entry 0 to it and is traced back through parents": the entries of the route.
abbrev pub path : List Entry → ℕ → List Entry
path t i = map (entry_at t) (route t i)

-- ── the comparison ──

-- "by node then sequence"
abbrev pub compare_pairs : Entry → Entry → Ordering
compare_pairs e f = ordering_then (compare_ℕ e.node f.node) (compare_ℕ e.sequence f.sequence)

-- 02, P1: "by that number first, then node, then sequence", the number of names in the rename's log. The key of the comparison stands
-- here, and nowhere else.
abbrev pub compare_keys : Entry → Entry → Ordering
compare_keys e f = ordering_then (compare_ℕ e.count f.count) (compare_pairs e f)

-- "Paths compare entry by entry ..; a proper prefix is smaller (001, section 5.2)."
abbrev pub compare_paths : List Entry → List Entry → Ordering
compare_paths [] [] = Equal
compare_paths [] (f ∷ q) = Less
compare_paths (e ∷ p) [] = Greater
compare_paths (e ∷ p) (f ∷ q) = ordering_then (compare_keys e f) (compare_paths p q)

-- epochs compare as their paths do
abbrev pub compare_epochs : List Entry → ℕ → ℕ → Ordering
compare_epochs t i j = compare_paths (path t i) (path t j)

abbrev pub Smaller : List Entry → ℕ → ℕ → Type 0
Smaller t i j = compare_epochs t i j ≡ Less

-- ── the target ──

-- the one of the two with the greater path
abbrev pub greater : List Entry → ℕ → ℕ → ℕ
greater t i j = cond (is_lt (compare_epochs t i j)) j i

-- the greatest of the indices 0..n
abbrev pub greatest_to : List Entry → ℕ → ℕ
greatest_to t zero = 0
greatest_to t (suc n) = greater t (greatest_to t n) (suc n)

-- "The target is the greatest."
abbrev pub target : List Entry → ℕ
target t = greatest_to t (length t - 1)

-- ── the next step ──

-- From the route of an epoch to another's: nothing is left of both, and they are one; of the first alone nothing is left, and it
-- is above the other, whose next index is a child; else the way goes up to the parent p.
abbrev pub step_along : ℕ → List ℕ → List ℕ → Step
step_along p [] [] = Stay
step_along p [] (j ∷ r) = Down j
step_along p (i ∷ l) [] = Up p
step_along p (i ∷ l) (j ∷ r) = cond (eqb i j) (step_along p l r) (Up p)

abbrev pub step_to : List Entry → ℕ → ℕ → Step
step_to t d c = step_along (parent_of t c) (route t c) (route t d)

-- "One question gives the next step from a current index: stay, up to the parent, or down to a child, given by index."
abbrev pub next_step : List Entry → ℕ → Step
next_step t c = step_to t (target t) c

-- ── the walk ──

-- where a step from c leads
abbrev pub after : Step → ℕ → ℕ
after Stay c = c
after (Up i) c = i
after (Down i) c = i

-- "Following it": the index after k steps
abbrev pub walk : List Entry → ℕ → ℕ → ℕ
walk t zero c = c
walk t (suc k) c = walk t k (after (next_step t c) c)

-- what is left of each of two routes after their longest common beginning, added
abbrev pub apart : List ℕ → List ℕ → ℕ
apart [] r = length r
apart (i ∷ l) [] = length (i ∷ l)
apart (i ∷ l) (j ∷ r) = cond (eqb i j) (apart l r) (length (i ∷ l) + length (j ∷ r))

-- "the number of edges between the two", from their routes
abbrev pub edges : List Entry → ℕ → ℕ → ℕ
edges t c d = apart (route t c) (route t d)
