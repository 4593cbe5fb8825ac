-- `slots::look_after` meets its contract. Assumes nothing.
use Rattle.std.proofs.Common.{sym, refl, ap, ◌∙◌, arith}
use Rattle.names.specs.Ordering.{compare_rows}
use Rattle.std.specs.Ordering.{is_lt}
use Rattle.slots.specs.Tuples.{tuples_at}
use Rattle.slots.specs.Slots.{head_size}
use Rattle.slots.specs.Looks.{leads, seen}
use Rattle.slots.proofs.PackedTuples.{alike_compare}
use Rattle.slots.proofs.NameTests.{leads_fewer, name_over_lem}
use Rattle.slots.proofs.LookedAt.{deep, broken, bad_head, kept_by}
use Rattle.slots.proofs.look_after.Goals as goal

pub returns-then-not-head_ok : goal.returns-then-not-head_ok
returns-then-not-head_ok c =
    let s = c.args.s.now in
    let room = c.args.room in
    broken room s (tuples_at c.args.a.now head_size c.args.n) (bad_head room s c.requires.s_len.0 c.head_ok.ensures c.if-not-head_ok.true)

pub name_from-requires : goal.name_from-requires
name_from-requires c =
    let s = c.args.s.now in
    let room = c.args.room in
    let a = c.args.a.now in
    let head = sym c.head_ok.ensures ∙ c.if-not-head_ok.false in
    let k = deep room s head in
    let i = c.alike-i.result in
    let known = leads_fewer a head_size i c.args.n c.alike-i.ensures.upper_bound.0 c.requires.n_in_bounds.1 in
    (omega arith, omega arith, omega arith, ap leads (sym c.alike-i.ensures.upper_bound.2) ∙ known)

pub returns-then-not-name_from : goal.returns-then-not-name_from
returns-then-not-name_from c =
    let s = c.args.s.now in
    let room = c.args.room in
    let d = c.depth_over-d.result in
    let a = tuples_at c.args.a.now head_size c.args.n in
    let head = sym c.head_ok.ensures ∙ c.if-not-head_ok.false in
    let named = sym c.if-not-name_from.true ∙ c.name_from.ensures in
    broken room s a (kept_by room s c.requires.s_len.0 d head c.depth_over-d.ensures named refl)

pub returns-then-not-zero_after : goal.returns-then-not-zero_after
returns-then-not-zero_after c =
    let s = c.args.s.now in
    let room = c.args.room in
    let d = c.depth_over-d.result in
    let a = tuples_at c.args.a.now head_size c.args.n in
    let head = sym c.head_ok.ensures ∙ c.if-not-head_ok.false in
    let named = sym c.if-not-name_from.false ∙ c.name_from.ensures in
    let rest = sym c.if-not-zero_after.true ∙ c.zero_after.ensures in
    broken room s a (kept_by room s c.requires.s_len.0 d head c.depth_over-d.ensures named rest)

pub returns-then-is_lt : goal.returns-then-is_lt
returns-then-is_lt c =
    let s = c.args.s.now in
    let room = c.args.room in
    let d = c.depth_over-d.result in
    let a = tuples_at c.args.a.now head_size c.args.n in
    let head = sym c.head_ok.ensures ∙ c.if-not-head_ok.false in
    let named = sym c.if-not-name_from.false ∙ c.name_from.ensures in
    let rest = sym c.if-not-zero_after.false ∙ c.zero_after.ensures in
    let keeps = kept_by room s c.requires.s_len.0 d head c.depth_over-d.ensures named rest in
    let i = c.alike-i.result in
    let order =
    c.compare_rows.ensures
    ∙ alike_compare c.args.a.now head_size s head_size i c.alike-i.ensures.upper_bound.2 c.args.n d c.alike-i.ensures.upper_bound.0 c.alike-i.ensures.upper_bound.1
    ∙ ap (compare_rows a) (name_over_lem room s d c.depth_over-d.ensures) in
    let rises = sym c.if-is_lt.true ∙ c.is_lt.ensures ∙ ap is_lt order in
    λ j. seen (keeps j) (rises j)

pub returns-else-is_lt : goal.returns-else-is_lt
returns-else-is_lt c =
    let s = c.args.s.now in
    let room = c.args.room in
    let d = c.depth_over-d.result in
    let a = tuples_at c.args.a.now head_size c.args.n in
    let head = sym c.head_ok.ensures ∙ c.if-not-head_ok.false in
    let named = sym c.if-not-name_from.false ∙ c.name_from.ensures in
    let rest = sym c.if-not-zero_after.false ∙ c.zero_after.ensures in
    let keeps = kept_by room s c.requires.s_len.0 d head c.depth_over-d.ensures named rest in
    let i = c.alike-i.result in
    let order =
    c.compare_rows.ensures
    ∙ alike_compare c.args.a.now head_size s head_size i c.alike-i.ensures.upper_bound.2 c.args.n d c.alike-i.ensures.upper_bound.0 c.alike-i.ensures.upper_bound.1
    ∙ ap (compare_rows a) (name_over_lem room s d c.depth_over-d.ensures) in
    let rises = sym c.if-is_lt.false ∙ c.is_lt.ensures ∙ ap is_lt order in
    λ j. seen (keeps j) (rises j)
