-- The root and the map of a plan that was made for a call, and a text that was read again.
use Rattle.std.proofs.Common.{◌≡◌, ℕ, List, [], ◌∷◌, Some, sym, subst, String, Global, BTreeMap}
use Rattle.json.specs.Json.{Json, document}
use Rattle.borsh_walks.specs.{declared.definition.Definition.{Definition}, Container.{Member}}
use Rattle.borsh_plan.specs.{declared.plan.Plan.{Plan}, Plan.{IsPlanOf, definitions_of, map_of, root_of}}
use Rattle.borsh_json.specs.{declared.definitions.Definitions.{Definitions}, Forms.{forms_in}, Found.{SaysBy}, Represents.{HaveBytes}}
use Rattle.borsh_walks.proofs.Forms.{shapes_are}

pub by_plan : (P : List ℕ → BTreeMap (String Global) Definition → Type 0) (d : Definitions) (p : Plan) {m : BTreeMap (String Global) Definition} {x : List ℕ} → d.plan.now ≡ p → IsPlanOf m x p → P (root_of d.plan.now) (map_of d.plan.now) → P x m
by_plan P d p {m = m} {x = x} e h q = subst (λ (m : BTreeMap (String Global) Definition). P x m) h.map (subst (λ y. P y (map_of p)) h.root (subst (λ (p : Plan). P (root_of p) (map_of p)) e q))

-- the text that was read says the member
pub said_by : (d : Definitions) (text bytes read : List ℕ) → ((j : Json) × (document text ≡ Some j) × HaveBytes (forms_in (map_of d.plan.now)) ((root_of d.plan.now, j) ∷ []) read) → read ≡ bytes → Member (definitions_of d.plan.now) (root_of d.plan.now) bytes → SaysBy d text bytes
said_by d text bytes read s e m =
    (s.0, s.1, subst (λ b. HaveBytes (forms_in (map_of d.plan.now)) ((root_of d.plan.now, s.0) ∷ []) b) e s.2, subst (λ C. Member C (root_of d.plan.now) bytes) (sym (shapes_are (map_of d.plan.now))) m)
