-- `name_values::join_by` meets its contract. Assumes nothing.
use Rattle.std.specs.declared.option.Option.TheVariants.{Some}
use native.Mathlib.Omega.{arith}
use mathlib.Core.Path.{◌≡◌, ap, ◌∙◌}
use mathlib.Core.List.{[], ◌∷◌, ◌++◌, append_assoc}
use Prim.Native.Nat.{◌+◌, ◌<◌, ◌≤◌}
use lib.ListN.{length, length-append}
use Rattle.names.specs.declared.Name.{Name}
use Rattle.names.specs.Ordering.{Row}
use Rattle.names.specs.Names.{limit, row_of, value_of}
use Rattle.name_values.proofs.JoinedRows.{value_of_lem, row_of_lem, joined_all, joined_none}
use Rattle.name_values.proofs.join_by.Goals as goal

-- a on no row, and t on that
first : {e r : Name} (a : Row) → e ≡ value_of [] → r ≡ value_of (row_of e ++ a) → r ≡ value_of a
first a p q = q ∙ ap (λ (x : Row). value_of (x ++ a)) (row_of_lem [] p)

pub returns-then-tuples_in-ge-LIMIT : goal.returns-then-tuples_in-ge-LIMIT
returns-then-tuples_in-ge-LIMIT c =
    let x = c.args in
    let a = row_of x.a in
    let b = x.t ∷ row_of x.b in
    let h : limit < length a + length b = omega arith in
    joined_none a b h

pub append-requires : goal.append-requires
append-requires c = let l = ap length (row_of_lem [] c.empty.ensures) in (value_of_lem [] c.empty.ensures, omega arith)

pub push-requires : goal.push-requires
push-requires c =
    let a = row_of c.args.a in
    let e = first a c.empty.ensures c.append.ensures in
    let l = ap length (row_of_lem a e) in
    (value_of_lem a e, omega arith)

pub append-requires-2 : goal.append-requires-2
append-requires-2 c =
    let x = c.args in
    let a = row_of x.a in
    let e = first a c.empty.ensures c.append.ensures in
    let f = c.push.ensures ∙ ap (λ (r : Row). value_of (r ++ (x.t ∷ []))) (row_of_lem a e) in
    let l = ap length (row_of_lem (a ++ (x.t ∷ [])) f) ∙ length-append a (x.t ∷ []) in
    (value_of_lem (a ++ (x.t ∷ [])) f, omega arith)

pub returns : goal.returns
returns c =
    let x = c.args in
    let a = row_of x.a in
    let b = x.t ∷ row_of x.b in
    let h : length a + length b ≤ limit = omega arith in
    let e = first a c.empty.ensures c.append.ensures in
    let f = c.push.ensures ∙ ap (λ (r : Row). value_of (r ++ (x.t ∷ []))) (row_of_lem a e) in
    let g = c.append-2.ensures ∙ ap (λ (r : Row). value_of (r ++ row_of x.b)) (row_of_lem (a ++ (x.t ∷ [])) f) ∙ ap value_of (append_assoc a (x.t ∷ []) (row_of x.b)) in
    ap Some g ∙ joined_all a b h
