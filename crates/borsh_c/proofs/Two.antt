-- What is told of two containers, and of the container of a type.
use Rattle.std.proofs.Common.{◌≡◌, ℕ, List, Some, String, string_bytes, codes, refl, subst, sym}
use Rattle.std.specs.Global.{Global}
use Rattle.borsh_definitions.specs.Codecs.{root_and_map}
use Rattle.borsh_definitions.specs.Described.{forms_in}
use Rattle.borsh_source.specs.Container.{IsMeaning}
use Rattle.borsh_source.specs.declared.compiling.Compiled.{Compiled}
use Rattle.borsh_source.specs.declared.tree.Source.{Source}
use Rattle.borsh_walks.specs.Container.{IsValid}
use Rattle.borsh_walks.specs.Definitions.{definitions_in}
use Rattle.borsh_plan.specs.Plan.{IsPlanOf, map_of, root_of}
use Rattle.borsh_plan.specs.declared.plan.Plan.{Plan}
use Rattle.borsh_c.specs.Answers.{About, Definitions, Gives, IsShort, code_of, told_text}
use Rattle.borsh_compare.specs.Walks.{IsStillRead}
use Rattle.borsh_c.specs.Pairs.{AboutTwo, AnswersCompared, AreAny, IsLost, IsOneMalformed, OfPlans, RefusesTwo, SayingOfTwo}
use Rattle.borsh_compare.specs.Walks.{IsStillRead}
use Rattle.borsh_c.specs.Pairs.AnswersCompared.{lost, malformed, not_known, out_of_memory, still_read}
use Rattle.borsh_c.specs.Room.{IsGiven}
use Rattle.borsh_c.specs.Types.{AnswersContainer, AreEncodingOf, IsOfType, TellsNoType}
use Rattle.borsh_c.specs.Types.AnswersContainer.{compiled, refused, out_of_memory as no_memory}
use Rattle.borsh_c.specs.declared.refusal.NoAnswer.{NoAnswer}
use Rattle.borsh_c.specs.declared.refusal.NoAnswer.TheVariants.{No, Malformed, OutOfMemory, Undecided}
use Rattle.borsh_c.proofs.Records.{by_plan}

-- what holds by two plans holds by the containers that they were made of
pub of_plans : (P : SayingOfTwo) (p q : Plan) {x y : List ℕ} {m n : Definitions} → IsPlanOf m x p → IsPlanOf n y q → OfPlans P p q → P m x n y
of_plans P p q {x} {y} {m} {n} old new h = by_plan (P m x) q new (by_plan (λ d r. P d r (map_of q) (root_of q)) p old h)

pub two_told : (P : SayingOfTwo) {old new : List ℕ} (c d : String Global × Definitions) → root_and_map.encoding c ≡ Some old → root_and_map.encoding d ≡ Some new → (p q : Plan) → IsPlanOf c.1 (string_bytes c.0) p → IsPlanOf d.1 (string_bytes d.0) q → OfPlans P p q → AboutTwo old new P
two_told P c d e f p q before after h = (c, e, (d, f, of_plans P p q before after h))

-- the container of a type was encoded
pub compiled_about : {bytes : List ℕ} {S : Source} {t : ℕ} (c : Compiled) → IsMeaning S t (string_bytes c.declaration) (forms_in c.definitions) → IsValid (definitions_in c.definitions) (string_bytes c.declaration) → AreEncodingOf c bytes × IsShort bytes → About bytes IsOfType × IsShort bytes
compiled_about {S = S} {t = t} c m v e = (((c.declaration, c.definitions), e.0, (v, (S, t, m))), e.1)

-- what follows from what a refusal says
pub refuses_more : {M K : List ℕ → Type 0} {N L U V : Type 0} → ((text : List ℕ) → M text → K text) → (N → L) → (U → V) → (r : NoAnswer) → RefusesTwo M N U r → RefusesTwo K L V r
refuses_more f g h (No t) told = (told.0, g told.1)
refuses_more f g h (Malformed t) told = f (string_bytes t) told
refuses_more f g h OutOfMemory told = tt
refuses_more f g h (Undecided t) told = (told.0, h told.1)

pub compared_told : (old new : List ℕ) (r : NoAnswer) → RefusesTwo (IsOneMalformed old new) (AboutTwo old new IsLost) (AboutTwo old new AreAny) r → {code : ℕ} → code ≡ code_of r → {room : List ℕ} {needed : ℕ} → IsGiven (told_text r) room needed → Gives (AnswersCompared old new code) room needed
compared_told old new (No t) told code given = (string_bytes t.text, lost told.0 told.1 code, given)
compared_told old new (Malformed t) told code given = (string_bytes t, malformed told code, given)
compared_told old new OutOfMemory told code given = (codes "out of memory", out_of_memory refl code, given)
compared_told old new (Undecided t) told code given = (string_bytes t, not_known told.0 told.1 code, given)

pub compared_given : (old new : List ℕ) {bytes text : List ℕ} → IsShort text × AboutTwo old new IsStillRead → bytes ≡ text → {room : List ℕ} {needed : ℕ} → IsGiven bytes room needed → Gives (AnswersCompared old new 0) room needed
compared_given old new {bytes} right same given = (bytes, still_read (subst IsShort (sym same) right.0) right.1 refl, given)

pub type_given : {bytes container : List ℕ} → About container IsOfType × IsShort container → bytes ≡ container → {room : List ℕ} {needed : ℕ} → IsGiven bytes room needed → Gives (AnswersContainer 0) room needed
type_given {bytes} right same given = (bytes, compiled (subst (λ (c : List ℕ). About c IsOfType × IsShort c) (sym same) right) refl, given)

pub type_told : (r : NoAnswer) → TellsNoType r → {code : ℕ} → code ≡ code_of r → {room : List ℕ} {needed : ℕ} → IsGiven (told_text r) room needed → Gives (AnswersContainer code) room needed
type_told (No t) told code given = (string_bytes t.text, refused told code, given)
type_told (Malformed t) told code given = absurd told
type_told OutOfMemory told code given = (codes "out of memory", no_memory refl code, given)
type_told (Undecided t) told code given = absurd told
