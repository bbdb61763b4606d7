-- A failure, from the error that it stands for.
use Rattle.std.proofs.Common.{◌≡◌, ℕ, ◌+◌, true, List, Some, Result, Ok, Err, IfErr, ap, sym, subst, arith, String}
use Rattle.std.specs.Global.{Global}
use Rattle.std.specs.Borrow.{Bor}
use Rattle.std.specs.BTreeMap.{BTreeMap}
use Rattle.borsh.specs.Stream.{CountedUp, slice_state}
use Rattle.borsh.specs.Codec.{IsDecodable}
use Rattle.borsh.specs.Reading.{NotDecoded, ReadFailure, WhyNotDecoded}
use Rattle.borsh.specs.Reading.WhyNotDecoded.{malformed, no_memory}
use Rattle.borsh.specs.Reading.ReadFailure.{malformed as misread, no_memory as no_room, reader_failed}
use Rattle.borsh_io.specs.declared.error.ErrorKind.{ErrorKind}
use Rattle.borsh_io.specs.declared.error.ErrorKind.TheVariants.{OutOfMemory as NoRoom}
use Rattle.borsh_definitions.specs.Codecs.{root_and_map}
use Rattle.borsh_definitions.proofs.Laws.Own.{root_and_map-lawful}
use Rattle.borsh_plan.specs.Plan.{IsPlanOf, definitions_of, map_of, root_of}
use Rattle.borsh_json.specs.declared.error.JsonError.{JsonError}
use Rattle.borsh_json.specs.Errors.{IsNoRowsReason}
use Rattle.borsh_json.specs.Rows.{IsNoRow}
use Rattle.borsh_plan.specs.declared.plan.Plan.{Plan}
use Rattle.borsh_walks.specs.Container.{Member}
use Rattle.borsh_json.specs.declared.error.JsonError.TheVariants.{OutOfMemory as NoMemory}
use Rattle.borsh_walks.specs.declared.definition.Definition.{Definition}
use Rattle.borsh_tool_commands.specs.declared.failure.Failure.{Failure}
use Rattle.borsh_tool_commands.specs.declared.failure.Failure.TheVariants.{NoCommand, Unreadable, NotHexadecimal, NotContainer, NotValue, NotText, TwoInputs, RawOnTerminal, WrongUse, Unread, Unwritten, LongLine, NotType, OutOfMemory}
use Rattle.borsh_tool_commands.specs.Failures.{BeginsWithContainer, IsFailure, IsNoMemory}
use Rattle.borsh_tool_commands.specs.Json.{HasReason}
use Rattle.borsh_tool_commands.specs.declared.values.Schema.{Schema}
use Rattle.borsh_tool_commands.specs.Sent.{IsContainer}

-- a failure whose facts lead to others
pub led : (path : List ℕ) {a b c x y z : Type 0} → (a → x) → (b → y) → (c → z) → (f : Failure) → IsFailure path a b c f → IsFailure path x y z f
led path f g h NoCommand k = absurd k
led path f g h (Unreadable p e) k = absurd k
led path f g h (NotHexadecimal p e) k = absurd k
led path f g h (NotContainer p e) k = (k.0, f k.1)
led path f g h (NotValue p t) k = (k.0, g k.1)
led path f g h (NotText p) k = (k.0, h k.1)
led path f g h TwoInputs k = absurd k
led path f g h RawOnTerminal k = absurd k
led path f g h (WrongUse e) k = absurd k
led path f g h (Unread p e) k = absurd k
led path f g h (Unwritten e) k = absurd k
led path f g h (LongLine p) k = absurd k
led path f g h (NotType p text) k = absurd k
led path f g h OutOfMemory k = tt

-- the same of what a call returns
pub led_result : {A : Type 0} (path : List ℕ) {a b c x y z : Type 0} → (a → x) → (b → y) → (c → z) → (r : Result A Failure) → IfErr r (IsFailure path a b c) → IfErr r (IsFailure path x y z)
led_result path f g h (Ok v) k = tt
led_result path f g h (Err e) k = led path f g h e k

-- an error of `borsh_json`, of the name of the root
pub reasoned : (Reason : List ℕ → JsonError → Type 0) {root name : List ℕ} (e : JsonError) → root ≡ name → Reason root e → (e ≡ NoMemory → ⊥) → HasReason (Reason name)
reasoned Reason e same reason other = (e, subst (λ (r : List ℕ). Reason r e) same reason, other)

-- no container decodes from the bytes, where the error is no failed allocation
pub none_decoded : (bytes : List ℕ) (kind : ErrorKind) → WhyNotDecoded root_and_map true bytes kind → (kind ≡ NoRoom → ⊥) → IsContainer bytes → ⊥
none_decoded bytes kind (malformed k none) other is = none ((is.0.root, is.0.definitions), root_and_map-lawful.round_trip true (is.0.root, is.0.definitions) bytes is.1)
none_decoded bytes kind (no_memory k a) other is = absurd (other k)

no_fault : CountedUp 0 0 → ⊥
no_fault r = let one : 0 ≡ 0 + 1 = r.0 (omega arith) in omega arith

not_in_front : (bytes left : List ℕ) (kind : ErrorKind) → ReadFailure root_and_map.decoding_allocates root_and_map.texts_allocate (IsDecodable root_and_map true) (slice_state bytes) (slice_state left) kind → (kind ≡ NoRoom → ⊥) → BeginsWithContainer bytes → ⊥
not_in_front bytes left kind (misread k e none) other is =
    let s = is.0 in
    none is.2.front is.1 (ap Some is.2.whole) ((s.root, s.definitions), root_and_map-lawful.round_trip true (s.root, s.definitions) is.2.front is.2.is)
not_in_front bytes left kind (no_room k e a) other is = absurd (other k)
not_in_front bytes left kind (reader_failed r n) other is = absurd (no_fault r)

-- no container is in front of the bytes, where the error is no failed allocation
pub none_in_front : (bytes left : List ℕ) (kind : ErrorKind) → NotDecoded (String Global × BTreeMap (String Global) Definition) root_and_map (slice_state bytes) (slice_state left) kind → (kind ≡ NoRoom → ⊥) → BeginsWithContainer bytes → ⊥
none_in_front bytes left kind n other is = not_in_front bytes left kind n.refused.why other is

-- why a member has no next row, by the plan for which it has some
pub no_row : (l m : Plan) (bytes : List ℕ) (e : JsonError) → m ≡ l → IsNoRow m e → Member (definitions_of l) (root_of l) bytes → IsNoRowsReason (definitions_of l) (root_of l) bytes e
no_row l m bytes e same n is = subst (λ (m : Plan). IsNoRow m e) same n bytes is

-- what holds by a plan that was made of a name and a map
pub by_plan : (P : List ℕ → BTreeMap (String Global) Definition → Type 0) (l : Plan) {root name : List ℕ} {map : BTreeMap (String Global) Definition} → IsPlanOf map root l → root ≡ name → P (root_of l) (map_of l) → P name map
by_plan P l {root = root} {map = map} h e p = subst (λ x. P x map) e (subst (λ (m : BTreeMap (String Global) Definition). P root m) h.map (subst (λ r. P r (map_of l)) h.root p))
