use Rattle.borsh_source.specs.Meaning.{kept_names}
use Rattle.borsh_source.proofs.FieldLists.{kept_names-append}
use Rattle.borsh_source.proofs.Lists.{grow, item_at}
use Rattle.borsh_source.proofs.items.kept_names.Goals as goal

pub loop-field-preserved : goal.loop-field-preserved
loop-field-preserved c = grow kept_names kept_names-append c.args.fields.now c.loop-field.field-index c.field-item.result _ _ (item_at _ _ _ c.loop-field-test.true c.field-item.is) c.loop-field.invariant c.in_ok-push_name.ensures
