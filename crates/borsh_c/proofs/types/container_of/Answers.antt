use Rattle.std.proofs.lemmas.Result.{IfOk-weaker}
use Rattle.borsh_c.proofs.Two.{compiled_about}
use Rattle.borsh_c.proofs.types.container_of.Goals as goal

pub returns-in-Ok-compile-clause-ok : goal.returns-in-Ok-compile-clause-ok
returns-in-Ok-compile-clause-ok c =
    IfOk-weaker c.encoding_of.result _ _ (λ bytes e. compiled_about c.in-Ok-compile.compiled c.in-Ok-compile.ensures.meaning c.in-Ok-compile.ensures.valid e) c.encoding_of.ensures.ok
