-- Document 01's table "Name x | Becomes" and its four bullets of "Taking it back", each line as 01 writes it: what it says of `rename`
-- and of `take_back`, which specs/Renaming.antt defines so that they compute. proofs/Rules.antt has that all of it holds (`rules`).
-- a·b is `a ++ b`, and with the one tuple t in front `t ∷ b`; −1 is `negsuc 0`; "otherwise" is `¬` of what stands before it.
use Rattle.std.specs.Prelude.{ℕ, ◌+◌, ◌-◌, ◌<◌, ◌≡◌, List, [], ◌∷◌, ◌++◌, length, get_or, negsuc}
use Rattle.names.specs.declared.Author.{Author}
use Rattle.names.specs.Ordering.{Row, ◌<ⁿ◌, Rising}
use Rattle.names.specs.Names.{m, M, one_below}
use Rattle.name_renames.specs.declared.Case.{Case}
use Rattle.name_renames.specs.declared.Case.TheVariants.{KeepBelow, PutBelow, Logged, Between, PutAbove, KeepAbove}
use Rattle.name_renames.specs.Renaming.{first_position, lead, N as lead_name, rename, take_back}

infix 4 ◌below◌ ◌above◌
-- the order of names, in 01's words
abbrev pub ◌below◌ : Row → Row → Type 0
◌below◌ a b = a <ⁿ b

abbrev pub ◌above◌ : Row → Row → Type 0
◌above◌ a b = b <ⁿ a

-- "Log r0 < .. < r(n−1), author (A, s)"
module _ (author : Author) (log : List Row) where
  abbrev pub n : ℕ
  n = length log

  -- r(k), the name of the log that has k others before it. No line below asks for one that the log, of at least one name, has not.
  abbrev pub r : ℕ → Row
  r k = get_or log k []

  -- "p = position of r0's first tuple"
  abbrev pub p : ℕ
  p = first_position log

  -- "N(k) = the name (p, A, s, k)"
  abbrev pub N : ℕ → Row
  N k = lead_name p author k

  -- ── renaming one name ──

  -- | Name x | Becomes |
  pub record Table : Type 0 where
    -- | below r0 and below N(0) | x |
    pub keep_below : (x : Row) → x below r 0 → x below N 0 → rename author log x ≡ x
    -- | below r0, otherwise | (p, A, s, −1)·x |
    pub put_below : (x : Row) → x below r 0 → ¬ (x below N 0) → rename author log x ≡ lead p author (negsuc 0) ∷ x
    -- | equal to r(k) | N(k) |
    pub logged : (x : Row) (k : ℕ) → k < n → x ≡ r k → rename author log x ≡ N k
    -- | between r(k) and r(k+1) | N(k)·x |
    pub between : (x : Row) (k : ℕ) → k + 1 < n → x above r k → x below r (k + 1) → rename author log x ≡ N k ++ x
    -- | above r(n−1) and below N(n−1) | N(n−1)·x |
    pub put_above : (x : Row) → x above r (n - 1) → x below N (n - 1) → rename author log x ≡ N (n - 1) ++ x
    -- | above r(n−1), otherwise | x |
    pub keep_above : (x : Row) → x above r (n - 1) → ¬ (x below N (n - 1)) → rename author log x ≡ x

  -- When a case of the table applies to x: its first column, by the cases of src/lib.rt.
  abbrev pub Applies : Row → Case → Type 0
  Applies x KeepBelow = (x below r 0) × (x below N 0)
  Applies x PutBelow = (x below r 0) × ¬ (x below N 0)
  Applies x (Logged k) = (k < n) × (x ≡ r k)
  Applies x (Between k) = (k + 1 < n) × (x above r k) × (x below r (k + 1))
  Applies x (PutAbove k) = (k ≡ n - 1) × (x above r k) × (x below N k)
  Applies x KeepAbove = (x above r (n - 1)) × ¬ (x below N (n - 1))

  -- One case applies to each name, and no two.
  pub record OneCase : Type 0 where
    pub some : (x : Row) → (c : Case) × Applies x c
    pub no_two : (x : Row) (c d : Case) → Applies x c → Applies x d → c ≡ d

  -- ── taking it back ──

  -- "c = (p, A, s, −1)·t with t not empty and t not below N(0)"
  abbrev pub LowTail : Row → Row → Type 0
  LowTail c t = (c ≡ lead p author (negsuc 0) ∷ t) × ¬ (t ≡ []) × ¬ (t below N 0)

  -- "c below N(0):"
  pub record BackBelow (c v : Row) : Type 0 where
    -- "v is t where c = (p, A, s, −1)·t with t not empty and t not below N(0);"
    pub v_is_t : (t : Row) → LowTail c t → v ≡ t
    -- "otherwise v is c."
    pub v_is_c : ¬ ((t : Row) × LowTail c t) → v ≡ c
    -- "If v is below r0 the result is v,"
    pub if_below_lem : v below r 0 → take_back author log c ≡ v
    -- "else one below r0, then M, then v."
    pub otherwise : ¬ (v below r 0) → take_back author log c ≡ one_below (r 0) ++ (M ∷ v)

  -- "c between N(k) and N(k+1), so c = N(k)·t:"
  pub record BackBetween (k : ℕ) (c t : Row) : Type 0 where
    pub c_is : c ≡ N k ++ t
    -- "if t is not above r(k), r(k)·m·t."
    pub if_not_above_lem : ¬ (t above r k) → take_back author log c ≡ r k ++ (m ∷ t)
    -- "If t is not below r(k+1), one below r(k+1), then M, then t."
    pub if_not_below_lem : ¬ (t below r (k + 1)) → take_back author log c ≡ one_below (r (k + 1)) ++ (M ∷ t)
    -- "Otherwise t."
    pub otherwise : t above r k → t below r (k + 1) → take_back author log c ≡ t

  -- "c = N(n−1)·t and t is below N(n−1)"
  abbrev pub HighTail : Row → Row → Type 0
  HighTail c t = (c ≡ N (n - 1) ++ t) × (t below N (n - 1))

  -- "c above N(n−1):"
  pub record BackAbove (c v : Row) : Type 0 where
    -- "v is t where c = N(n−1)·t and t is below N(n−1);"
    pub v_is_t : (t : Row) → HighTail c t → v ≡ t
    -- "otherwise v is c."
    pub v_is_c : ¬ ((t : Row) × HighTail c t) → v ≡ c
    -- "If v is above r(n−1) the result is v,"
    pub if_above_lem : v above r (n - 1) → take_back author log c ≡ v
    -- "else r(n−1)·m·v."
    pub otherwise : ¬ (v above r (n - 1)) → take_back author log c ≡ r (n - 1) ++ (m ∷ v)

  -- "For a name c of the child epoch:"
  pub record Bullets : Type 0 where
    -- "c = N(k), 0 ≤ k < n: r(k)."
    pub logged : (c : Row) (k : ℕ) → k < n → c ≡ N k → take_back author log c ≡ r k
    -- "c below N(0): v is .."
    pub back_below_lem : (c : Row) → c below N 0 → (v : Row) × BackBelow c v
    -- "c between N(k) and N(k+1), so c = N(k)·t: .."
    pub back_between_lem : (c : Row) (k : ℕ) → k + 1 < n → c above N k → c below N (k + 1) → (t : Row) × BackBetween k c t
    -- "c above N(n−1): v is .."
    pub back_above_lem : (c : Row) → c above N (n - 1) → (v : Row) × BackAbove c v

-- They hold of every author and every log r0 < .. < r(n−1), which has at least one name.
pub record Rules : Type 0 where
  pub table : (author : Author) (log : List Row) → 0 < length log → Rising log → Table author log
  pub one_case : (author : Author) (log : List Row) → 0 < length log → Rising log → OneCase author log
  pub bullets : (author : Author) (log : List Row) → 0 < length log → Rising log → Bullets author log
