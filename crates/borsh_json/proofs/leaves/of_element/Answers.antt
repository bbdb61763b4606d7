use Rattle.std.proofs.Common.{length, subst}
use Rattle.borsh_json.specs.{declared.error.WriteError.{WriteError}, Leaves.{HasSize, RefusesValue}, Table.{Kind, list}}
use Rattle.borsh_json.proofs.{ListLaws.{no_size}, RepresentsLaws.{kind_one}}
use Rattle.borsh_json.proofs.leaves.of_element.Goals as goal

-- a primitive is no list
pub returns-in-Element : goal.returns-in-Element
returns-in-Element c = λ F e own k h s r.
    let t = subst (λ (w : WriteError). RefusesValue F e own w) c.in-Element.is r in
    absurd (no_size (list t.0 t.1) (length own) (subst (λ (k : Kind). HasSize k (length own)) (kind_one F h t.5) s) tt)
