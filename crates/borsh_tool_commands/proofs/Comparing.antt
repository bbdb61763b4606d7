-- Plans that are compared, as the schemas that they are of.
use Rattle.std.proofs.Common.{◌≡◌, ℕ, List, sym, subst}
use Rattle.std.specs.Prelude.{String}
use Rattle.std.specs.Global.{Global}
use Rattle.std.specs.BTreeMap.{BTreeMap}
use Rattle.borsh_walks.specs.declared.definition.Definition.{Definition}
use Rattle.borsh_walks.specs.Container.{Member}
use Rattle.borsh_walks.specs.Definitions.{definitions_in}
use Rattle.borsh_plan.specs.declared.plan.Plan.{Plan}
use Rattle.borsh_plan.specs.Plan.{IsPlanOf, definitions_of, root_of}
use Rattle.borsh_compare.specs.Walks.{Includes, IsStillRead}

pub included_schemas : (p q : Plan) (m n : BTreeMap (String Global) Definition) (x y : List ℕ) → IsPlanOf m x p → IsPlanOf n y q → Includes p q → IsStillRead m x n y
included_schemas p q m n x y old new f bytes a =
    subst (λ z. Member (definitions_in z) y bytes) new.map
    (subst (λ r. Member (definitions_of q) r bytes) new.root
    (f bytes
    (subst (λ r. Member (definitions_of p) r bytes) (sym old.root)
    (subst (λ z. Member (definitions_in z) x bytes) (sym old.map) a))))
