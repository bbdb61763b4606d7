-- What the answers of a comparison mean.
use Rattle.std.specs.Prelude.{ℕ, List}
use Rattle.borsh_walks.specs.Container.{Member}
use Rattle.borsh_plan.specs.declared.plan.Plan.{Plan}
use Rattle.borsh_plan.specs.Plan.{definitions_of, root_of}
use Rattle.borsh_values.specs.Membership.{IsFault}
use Rattle.borsh_values.specs.declared.faults.Fault.{Fault}
use Rattle.borsh_compare.specs.Alike.{SaysAlso}
use Rattle.borsh_compare.specs.Corresponding.{RootsCorrespond}
use Rattle.borsh_compare.specs.Walks.{Includes}
use Rattle.borsh_compare.specs.declared.compare.Answer.{Answer}
use Rattle.borsh_compare.specs.declared.compare.Answer.TheVariants.{Same, Compatible, Incompatible, NotKnown}

-- the bytes are a member of the old root and none of the new one, and the fault says where they stop being one
pub record IsEvidence (old new : Plan) (bytes : List ℕ) (f : Fault) : Type 0 where
  pub member : Member (definitions_of old) (root_of old) bytes
  pub none : Member (definitions_of new) (root_of new) bytes → ⊥
  pub fault : IsFault (definitions_of new) (root_of new) bytes f

-- each answer is right
abbrev pub IsRight : Plan → Plan → Answer → Type 0
IsRight old new Same = Includes old new × Includes new old
IsRight old new Compatible = Includes old new
IsRight old new (Incompatible e) = IsEvidence old new e.bytes.items e.fault
IsRight old new NotKnown = RootsCorrespond old new → ⊥

-- JSON that says a value by the old schema says it by the new one; where they have the same values, also the other way round
abbrev pub KeepsJson : Plan → Plan → Answer → Type 0
KeepsJson old new Same = SaysAlso old new × SaysAlso new old
KeepsJson old new Compatible = SaysAlso old new
KeepsJson old new (Incompatible e) = ⊥
KeepsJson old new NotKnown = ⊥
