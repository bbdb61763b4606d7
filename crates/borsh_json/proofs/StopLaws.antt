-- Why the writer stopped, as why bytes have no JSON.
use Rattle.std.proofs.Common.{inl, inr, ℕ, List, Option, subst}
use Rattle.std.specs.{BTreeMap.{BTreeMap}, Prelude.{String}}
use Rattle.borsh_walks.specs.{Container.{Member}, Definitions.{definitions_in}, declared.definition.Definition.{Definition}}
use Rattle.borsh_values.specs.Membership.{IsUndecided}
use Rattle.borsh_json.specs.{declared.error.JsonError.{JsonError}, declared.error.JsonError.TheVariants.{OutOfMemory, NoMember, NoValue, Ambiguous, NotJson, Refused}, declared.error.Refusal.{Refusal}, declared.error.Refusal.TheVariants.{TooDeep, RepeatedName, EmptyElements, NotBool, NotUtf8, Zero, NotNumber, Descends, Expected, MissingField, UnknownName, RepeatedKey, Undefined}, Errors.{IsUnwritable, IsNoJsonReason}, Forms.{Form, forms_in}, InOrder.{Step}, NoJson.{IsAbout, HasNoJsonPart, RefusesBytes}, NoValue.{path_steps}, Writes.{Stops}}
use Rattle.borsh_walks.proofs.Forms.{shapes_are}

-- where a value is refused, the refusal is about some name
pub about_some : (F : List ℕ → Option Form) (root bytes : List ℕ) (path : List Step) (P : Type 0) (r : Refusal) → ((x : List ℕ) → IsAbout F r x → P) → HasNoJsonPart F root bytes path r → P
about_some F root bytes path P r f h = elim h.8 [ inl a ↦ f h.5 a.1.0 | inr a ↦ f a.2.1 a.2.8.0 ]

unwritable : (F : List ℕ → Option Form) (root bytes : List ℕ) (path : List Step) (r : Refusal) → RefusesBytes F root bytes path r → IsUnwritable r
unwritable F root bytes path TooDeep s = tt
unwritable F root bytes path (RepeatedName name) s = tt
unwritable F root bytes path EmptyElements s = tt
unwritable F root bytes path NotBool s = tt
unwritable F root bytes path NotUtf8 s = tt
unwritable F root bytes path Zero s = tt
unwritable F root bytes path NotNumber s = tt
unwritable F root bytes path Descends s = tt
unwritable F root bytes path (Expected wanted) s = about_some F root bytes path ⊥ (Expected wanted) (λ x m. m) s
unwritable F root bytes path MissingField s = about_some F root bytes path ⊥ MissingField (λ x m. m) s
unwritable F root bytes path (UnknownName name) s = about_some F root bytes path ⊥ (UnknownName name) (λ x m. m) s
unwritable F root bytes path (RepeatedKey name) s = about_some F root bytes path ⊥ (RepeatedKey name) (λ x m. m) s
unwritable F root bytes path (Undefined name) s = about_some F root bytes path ⊥ (Undefined name) (λ x m. m) s

pub stop_reason : {A : Type 0} (m : BTreeMap (String A) Definition) (root bytes : List ℕ) (e : JsonError) → Member (definitions_in m) root bytes → Stops (forms_in m) root bytes e → IsNoJsonReason (definitions_in m) root bytes e
stop_reason m root bytes OutOfMemory b s = tt
stop_reason m root bytes (NoMember f) b s = absurd s
stop_reason m root bytes NoValue b s = s
stop_reason m root bytes (Ambiguous x) b s = subst (λ C. IsUndecided C root x.now) (shapes_are m) s
stop_reason m root bytes (NotJson offset) b s = s
stop_reason m root bytes (Refused path r) b s = (b, unwritable (forms_in m) root bytes (path_steps path) r s.1)
