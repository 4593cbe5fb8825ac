-- Tuples and names: document 01, "Names".
use Rattle.std.specs.Prelude.{ℕ, ◌-◌, ◌≡◌, [], ◌∷◌, ◌++◌, Bool, false, cond, ◌&&◌, ◌||◌, length, take, replicate, leb, is_some, IfSome, ℤ, pos, negsuc}
use Rattle.std.proofs.Math.IntN.{pred_ℤ}
use Rattle.std.specs.Int.Signed.{le_z}
use Rattle.names.specs.declared.Tuple.{Tuple}
use Rattle.names.specs.declared.Name.{Name}
use Rattle.std.specs.declared.option.Option.{Option}
use Rattle.std.specs.declared.option.Option.TheVariants.{Some, None}
use Rattle.names.specs.Ordering.{Row, compare_tuples}
use Rattle.std.specs.Ordering.{is_eq}

-- "A name is a row of at most eight tuples"; 02, P8: "Raise the depth limit to sixteen." The limit is asked apart from the rest,
-- since a result may pass it.
abbrev pub limit : ℕ
limit = 16

-- a row of at most so many tuples, and of at most as many as a name has
abbrev pub fits_over : ℕ → Row → Bool
fits_over room a = leb (length a) room

abbrev pub fits : Row → Bool
fits a = fits_over limit a

-- the row of a name as the code passes it: the first `depth` tuples of its array
abbrev pub row_of : Name → Row
row_of a = take a.depth a.tuples

-- n lies in low..high
abbrev pub within : ℕ → ℕ → ℕ → Bool
within low high n = leb low n && leb n high

abbrev pub within_ℤ : ℤ → ℤ → ℤ → Bool
within_ℤ low high z = le_z low z && le_z z high

-- "A tuple is (position, node, sequence, offset): u16, u16, u32, i32. An ordinary tuple has position 1..65534, node
-- 1..65535, any sequence, offset −1..2147483646." Here with the least offset that is asked, −1 or, of a last tuple, 0.
unfoldable pub ordinary_from : ℤ → Tuple → Bool
ordinary_from least t =
    within 1 65534 t.position && within 1 65535 t.node && leb t.sequence 4294967295
    && within_ℤ least (pos 2147483646) t.offset

abbrev pub ordinary : Tuple → Bool
ordinary t = ordinary_from (negsuc 0) t

-- "Two end markers exist: m = (0, 0, 0, 0) and M = (65535, 65535, 4294967295, 2147483647)."
abbrev pub m : Tuple
m = record { position = 0; node = 0; sequence = 0; offset = pos 0 }

abbrev pub M : Tuple
M = record { position = 65535; node = 65535; sequence = 4294967295; offset = pos 2147483647 }

unfoldable pub marker : Tuple → Bool
marker t = is_eq (compare_tuples t m) || is_eq (compare_tuples t M)

-- "The first and last tuples are ordinary, the last has offset at least 0, and markers may stand only between."
-- From any tuple of a name on: markers or ordinary tuples, and then the last.
unfoldable pub ends_well : Row → Bool
ends_well [] = false
ends_well (t ∷ []) = ordinary_from (pos 0) t
ends_well (t ∷ u ∷ a) = (ordinary t || marker t) && ends_well (u ∷ a)

unfoldable pub is_name : Row → Bool
is_name [] = false
is_name (t ∷ a) = ordinary t && ends_well (t ∷ a)

-- a row of at most `limit` tuples as the code passes it, with zeros after its tuples, so that there is one value for a row;
-- where there is no name it is that of the row of no tuples
abbrev pub value_of : Row → Name
value_of a = record { depth = length a; tuples = a ++ replicate (limit - length a) m }

-- a·b, which is `a ++ b`, as a name by value: of more than `limit` tuples there is none
abbrev pub joined : Row → Row → Option Name
joined a b = cond (fits (a ++ b)) (Some (value_of (a ++ b))) None

-- what the code gives of a row: a name, where it has at most `limit` tuples, and that has these
abbrev pub Gives : Option Name → Row → Type 0
Gives r a = (is_some r ≡ fits a) × IfSome r (λ x. row_of x ≡ a)

-- "'One below' a name is that name with its last offset less 1; offset 0 gives −1."
abbrev pub lowered : Tuple → Tuple
lowered t = record { position = t.position; node = t.node; sequence = t.sequence; offset = pred_ℤ t.offset }

unfoldable pub one_below : Row → Row
one_below [] = []
one_below (t ∷ []) = lowered t ∷ []
one_below (t ∷ u ∷ a) = t ∷ one_below (u ∷ a)
