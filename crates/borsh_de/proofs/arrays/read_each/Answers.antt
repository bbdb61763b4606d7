use Rattle.std.proofs.Common.{sym, true≢false}
use Rattle.std.proofs.lemmas.Result.{IfOk-weaker, IfErr-weaker}
use Rattle.borsh_io.specs.Errors.{error_kind}
use Rattle.borsh_de.proofs.MadeRows.{row_is_made, row_is_given_up, in_either_case}
use Rattle.borsh_de.proofs.arrays.read_each.Goals as goal

pub returns-clause-same_reader : goal.returns-clause-same_reader
returns-clause-same_reader g c =
    in_either_case c.try_array_from.result _ _
    (λ held m. (row_is_made (λ s. g.R.Read.stream s.reader.now) (λ s. s.reader.ghost_name) g.T.BorshType.codec m).0)
    (λ e m. (row_is_given_up (λ s. g.R.Read.stream s.reader.now) (λ s. s.reader.ghost_name) g.T.BorshType.codec error_kind {e = e} g.met.T.BorshType.lawful m).0)
    c.try_array_from.ensures.ok c.try_array_from.ensures.err

pub returns-clause-outcome : goal.returns-clause-outcome
returns-clause-outcome g c = record {
  ok = IfOk-weaker c.try_array_from.result _ _ (λ held m. (row_is_made (λ s. g.R.Read.stream s.reader.now) (λ s. s.reader.ghost_name) g.T.BorshType.codec m).1) c.try_array_from.ensures.ok;
  err = IfErr-weaker c.try_array_from.result _ _
      (λ e m. (row_is_given_up (λ s. g.R.Read.stream s.reader.now) (λ s. s.reader.ghost_name) g.T.BorshType.codec error_kind {e = e} g.met.T.BorshType.lawful m).1) c.try_array_from.ensures.err;
  untouched = λ h. absurd (true≢false (sym h));
}
