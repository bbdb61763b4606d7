-- What the exits of the walk for a size answer.
use Rattle.std.proofs.Common.{◌≡◌, ℕ, List, sym, ◌∙◌, ap, subst, None}
use Rattle.std.specs.Prelude.{Option}
use Rattle.borsh_walks.specs.Container.{Shape, SizeReaches}
use Rattle.borsh_walks.specs.SizeAnswer.{IsMissing, SizeFault}
use Rattle.borsh_walks.specs.declared.error.SchemaMaxSerializedSizeError.{SchemaMaxSerializedSizeError}
use Rattle.borsh_walks.specs.declared.error.SchemaMaxSerializedSizeError.TheVariants.{Overflow, Recursive, MissingDefinition, OutOfMemory, Redefinition}

pub missing_fault : (C : List ℕ → Option Shape) (root name : List ℕ) (e : SchemaMaxSerializedSizeError) → IsMissing name e → SizeReaches C root name → C name ≡ None → SizeFault C root e
missing_fault C root name Overflow m n h = absurd m
missing_fault C root name Recursive m n h = absurd m
missing_fault C root name (MissingDefinition s) m n h = (subst (λ x. SizeReaches C root x) (sym m) n, ap C m ∙ h)
missing_fault C root name OutOfMemory m n h = tt
missing_fault C root name (Redefinition s) m n h = absurd m
