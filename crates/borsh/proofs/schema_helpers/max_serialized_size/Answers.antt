use Rattle.std.proofs.Common.{inl}
use Rattle.std.proofs.lemmas.Result.{IfOk-weaker}
use Rattle.borsh.proofs.schema_helpers.max_serialized_size.Goals as goal

pub returns : goal.returns
returns g c =
    let own = c.in_ok-container.ensures in
    let size = c.max_serialized_size.ensures in
    record {
      of_type = inl (record { container = c.in_ok-container.container; is = own.ok; size = size });
      bounds = IfOk-weaker c.max_serialized_size.result _ _ (λ n b a x e. b x (own.language a x e)) size.bounds;
    }
