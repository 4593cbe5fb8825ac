-- `kadalumbir::kadalumbir_new_name` meets its contract. Assumes nothing.
use mathlib.Core.Path.{◌≡◌, ap, sym, ◌∙◌}
use lib.ListN.{length}
use Prim.Native.Nat.{ℕ}
use Rattle.std.specs.declared.result.Result.{Result}
use Rattle.std.specs.declared.result.Result.TheVariants.{Ok, Err}
use Rattle.kadalumbir.specs.Library.{packed, named, written}
use Rattle.names.specs.declared.Name.{Name}
use Rattle.names.specs.declared.Author.{Author}
use Rattle.answers.specs.Answers.{Outcome, leaves}
use Rattle.answers.specs.declared.Refusal.{Refusal}
use Rattle.kadalumbir.proofs.Counts.{named_count, new_name_count}
use Rattle.name_values.proofs.JoinedRows.{row_of_lem}
use Rattle.new_names.specs.NewNames.{Named, Says, new_name_outcome}
use Rattle.kadalumbir.proofs.kadalumbir_new_name.Goals as goal

-- what is written is what was said
said : (r : Result Name Refusal) (x : Named) (room : ℕ) → Says r x → written r room ≡ named x.answer x.name room
said (Ok name) x room h = λ i. named (sym h.0 i) (row_of_lem x.name h.1 i) room
said (Err r) x room h = λ i. named (sym h i).answer (sym h i).name room

pub pack-requires : goal.pack-requires
pack-requires c =
    let by : Author = record { node = c.args.node; sequence = c.args.sequence } in
    let x = new_name_outcome c.args.page.now c.args.gap by in
    let room = length c.args.out.now in
    rw (c.write_name.ensures.value, said c.new_name-made.result x room c.new_name-made.ensures) (named_count x.answer x.name room (new_name_count c.args.page.now c.args.gap by))

pub returns : goal.returns
returns c =
    let x = new_name_outcome c.args.page.now c.args.gap (record { node = c.args.node; sequence = c.args.sequence }) in
    let e = said c.new_name-made.result x (length c.args.out.now) c.new_name-made.ensures in
    record {
      value = c.pack.ensures ∙ ap packed (c.write_name.ensures.value ∙ ap (λ (o : Outcome). o.answer) e);
      out_after = c.write_name.ensures.out_after ∙ ap (λ (o : Outcome). leaves o c.args.out.now) e;
    }
