-- What holds of runs, and what each answer of `beside_of` says, in words of names alone. proofs/RunLaws.antt has that all of it holds.
use Rattle.std.specs.Prelude.{ℕ, ◌≡◌, ◌∷◌, ◌++◌, true, length}
use Rattle.names.specs.declared.Tuple.{Tuple}
use Rattle.names.specs.Ordering.{Row, ◌<ⁿ◌}
use Rattle.names.specs.Names.{is_name, one_below}
use Rattle.runs.specs.declared.Stand.{Stand}
use Rattle.runs.specs.declared.Stand.TheVariants.{Below, Before, At, Beyond, Above}
use Rattle.runs.specs.Runs.{next, onward}
use Rattle.runs.specs.Beside.{beside_of}

-- where b stands beside the run that begins with a
pub data Says (a b : Row) : Stand → Type 0 where
  -- below all of its names, and not the one right before the first
  below : ((k : ℕ) → b <ⁿ onward k a) → ¬ (next b ≡ a) → Says a b Below
  -- the one right before the first
  before : next b ≡ a → Says a b Before
  -- the name that comes i after the first
  at : {i : ℕ} → b ≡ onward i a → Says a b (At i)
  -- deeper: it begins with that name, so it is above it and below the next
  beyond : {i : ℕ} (t : Tuple) (u : Row) → b ≡ onward i a ++ (t ∷ u) → Says a b (Beyond i)
  -- above all names that the run could have
  above : ((k : ℕ) → onward k a <ⁿ b) → Says a b Above

pub record Laws : Type 0 where
  -- the next name is above, nothing but names that begin with a lies between, and it is as deep
  pub rises : (a : Row) → is_name a ≡ true → a <ⁿ next a
  pub nothing_between : (a b : Row) → a <ⁿ b → b <ⁿ next a → (t : Tuple) × (u : Row) × (b ≡ a ++ (t ∷ u))
  pub as_deep : (a : Row) → length (next a) ≡ length a
  -- 01's "one below" is the way back
  pub one_below_lem : (a : Row) → one_below (next a) ≡ a
  pub stands : (a b : Row) → is_name a ≡ true → Says a b (beside_of a b)
