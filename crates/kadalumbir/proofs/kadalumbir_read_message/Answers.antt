-- `kadalumbir::kadalumbir_read_message` meets its contract. Assumes nothing.
use mathlib.Core.Path.{◌≡◌, ap, sym, ◌∙◌}
use lib.ListN.{length}
use Rattle.std.specs.Prelude.{IfOk, IfErr}
use Rattle.std.specs.declared.result.Result.{Result}
use Rattle.std.specs.declared.result.Result.TheVariants.{Ok, Err}
use Rattle.answers.specs.Answers.{Answer}
use Rattle.answers.specs.declared.Refusal.{Refusal}
use Rattle.messages.specs.declared.Numbers.{Numbers}
use Rattle.messages.specs.Calls.{given_by}
use Rattle.read_messages.specs.declared.Reading.{Reading}
use Rattle.kadalumbir.specs.Library.{packed, answer_in, numbers_in}
use Rattle.kadalumbir.proofs.Counts.{read_message_count}
use Rattle.kadalumbir.proofs.kadalumbir_read_message.Goals as goal

-- x is the answer of the outcome: it is what reading has given ..
answered : (r : Result Reading Refusal) (x : Answer) → IfOk r (λ t. x ≡ Ok t.names) → IfErr r (λ e. x ≡ Err e) → answer_in r ≡ x
answered (Ok t) x p q = sym p
answered (Err e) x p q = sym q

-- .. and so are the numbers, of a refusal zeros
numbered : (r : Result Reading Refusal) (x : Answer) (n : Numbers) → IfOk r (λ t. t.numbers ≡ given_by x n) → IfErr r (λ e. x ≡ Err e) → numbers_in r ≡ given_by x n
numbered (Ok t) x n p q = p
numbered (Err e) x n p q = λ i. given_by (sym q i) n

pub pack-requires : goal.pack-requires
pack-requires c =
    let read = c.read-read.ensures in
    rw (c.answer_in.ensures, answered c.read-read.result _ read.count read.refusal) (read_message_count c.args.message.now (length c.args.out.now))

pub returns : goal.returns
returns c =
    let read = c.read-read.ensures in
    record {
      value = c.pack.ensures ∙ ap packed (c.answer_in.ensures ∙ answered c.read-read.result _ read.count read.refusal);
      line_after = c.numbers_in-numbers.ensures ∙ numbered c.read-read.result _ _ read.numbers read.refusal;
      out_after = read.out_after;
    }
