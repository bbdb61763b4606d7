-- What a text is answered by.
use Rattle.std.proofs.Common.{◌≡◌, ℕ, inr, List, Result, Ok, Err, IfErr, subst, Vec}
use Rattle.std.specs.Prelude.{IfOk}
use Rattle.std.specs.Global.{Global}
use Rattle.borsh_plan.specs.declared.plan.Plan.{Plan}
use Rattle.borsh_plan.specs.Plan.{map_of, root_of}
use Rattle.borsh_json.specs.declared.output.Layout.TheVariants.{Compact}
use Rattle.borsh_tool_commands.specs.declared.failure.Failure.{Failure}
use Rattle.borsh_tool_commands.specs.declared.many.Wanted.TheVariants.{Json}
use Rattle.borsh_tool_commands.specs.Failures.{IsFailure}
use Rattle.borsh_tool_commands.specs.Json.{HasNoJson, IsJsonLine}
use Rattle.borsh_tool_commands.specs.Many.{AnswersText, said_by}
use Rattle.borsh_tool_commands.proofs.Failing.{led}

-- the JSON of the bytes that digits say
pub json-answered : (l : Plan) (path text bytes value : List ℕ) → said_by text ≡ Ok bytes → value ≡ bytes → (r : Result (Vec ℕ Global) Failure) → IfOk r (λ line. IsJsonLine (map_of l) (root_of l) Compact value line.items)
    → IfErr r (IsFailure path ⊥ (HasNoJson (map_of l) (root_of l) value) ⊥) → AnswersText l Json path text r
json-answered l path text bytes value s e (Ok line) a f = (bytes, s, subst (λ v. IsJsonLine (map_of l) (root_of l) Compact v line.items) e a)
json-answered l path text bytes value s e (Err x) a f = led path (λ h. h) (λ h. inr (bytes, s, subst (λ v. HasNoJson (map_of l) (root_of l) v) e h)) (λ h. h) x f
