-- `name_values::push` meets its contract. Assumes nothing.
use Rattle.names.specs.declared.Name.{Name}
use native.Mathlib.Omega.{arith}
use mathlib.Core.Path.{ap}
use Rattle.names.specs.Names.{row_of}
use Rattle.name_values.proofs.JoinedRows.{value_more}
use Rattle.name_values.proofs.push.Goals as goal

pub offset_bounds-tuples-a : goal.offset_bounds-tuples-a
offset_bounds-tuples-a c = let d = ap (λ (y : Name). y.depth) c.requires.0 in omega arith

pub bounds-tuples-a : goal.bounds-tuples-a
bounds-tuples-a c = let d = ap (λ (y : Name). y.depth) c.requires.0 in omega arith

pub overflow_add-result : goal.overflow_add-result
overflow_add-result c = let d = ap (λ (y : Name). y.depth) c.requires.0 in omega arith

pub returns : goal.returns
returns c = value_more (row_of c.args.a) c.args.t c.requires.0 c.requires.1
