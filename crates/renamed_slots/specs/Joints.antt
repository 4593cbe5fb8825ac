-- A name that is joined of r(k), a marker and v. Document 01, "Taking it back": "r(k)·m·v", and where r(k) is lowered "one below r(k), then M,
-- then v".
use Rattle.std.specs.Prelude.{Bool, cond}
use Rattle.names.specs.declared.Tuple.{Tuple}
use Rattle.names.specs.Ordering.{Row}
use Rattle.names.specs.Names.{m, M, one_below}
use Rattle.one_name.specs.declared.Back.{Back}
use Rattle.one_name.specs.declared.Back.TheVariants.{Behind, Ahead}
use Rattle.renamed_slots.specs.declared.Joint.{Joint}

abbrev pub below_if : Bool → Row → Row
below_if lowered r = cond lowered (one_below r) r

abbrev pub marker_if : Bool → Tuple
marker_if lowered = cond lowered M m

-- as one of the shapes that are found
abbrev pub joint : Joint → Back
joint j = cond j.lowered (Ahead j.k j.cut) (Behind j.k j.cut)
