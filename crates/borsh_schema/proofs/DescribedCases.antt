-- The variants of an enum with what describes them, as the data of an implementation.
use Rattle.std.proofs.Common.{◌≡◌, ℕ, ℤ, pos, nat_lt, true, List, [], ◌∷◌, Option, Some, ◌∙◌, ap}
use Rattle.std.specs.Prelude.{map}
use Rattle.borsh_codec.specs.Codec.{Codec}
use Rattle.borsh_codec.specs.Shapes.{contramap, behind_tag}
use Rattle.borsh_enums.specs.Cases.{fork, fork_view}
use Rattle.borsh_enums.specs.declared.cases.Fork.{Fork}
use Rattle.borsh_enums.specs.declared.cases.TagOf.{TagOf}
use Rattle.borsh_walks.specs.Container.{Shape, product, choice, IsListedVariant, first_variant, later_variant}
use Rattle.borsh_definitions.specs.Described.{Form, shape_of_form, choice, DefinitionTree, defined, both}
use Rattle.borsh_definitions.specs.Language.{Holds, Describes, DescribesChoice, DescribedCodec, DescribedFields}
use Rattle.borsh_definitions.proofs.Laws.Members.{describes_contramap, describes_parts, describes_choice, choice_tag, choice_either}

-- a variant as a definition lists it: its tag, its name and the name of its type
abbrev Row : Type 0
Row = ℤ × List ℕ × List ℕ

-- what the language sees of them
abbrev pub listed : List Row → List (ℤ × List ℕ)
listed vs = map (λ v. (v.0, v.2)) vs

module _ {C : List ℕ → Option Shape} where
  pub choice_contramap : {A B : Type 0} {vs : List (ℤ × List ℕ)} (view : B → A) {c : Codec A} → DescribesChoice A C c 1 vs → DescribesChoice B C (contramap view c) 1 vs
  choice_contramap view d = record { one = λ b x e. d.one (view b) x e }

  -- more variants may be listed
  pub choice_among : {A : Type 0} {c : Codec A} {vs ws : List (ℤ × List ℕ)} → ((k : ℤ) (p : List ℕ) → IsListedVariant k p vs → IsListedVariant k p ws) → DescribesChoice A C c 1 vs → DescribesChoice A C c 1 ws
  choice_among f d = record {
    one = λ a x e. (let v = d.one a x e in record { discriminant = v.discriminant; variant = v.variant; part = v.part; listed = f v.discriminant v.variant v.listed; whole = v.whole; member = v.member });
  }

-- the first variants of a list, up to those in ws, with what describes them in one container
pub record CasesIn {A : Type 0} (C : List ℕ → Option Shape) (c : Codec A) (vs ws : List (ℤ × List ℕ)) : Type 0 where
  pub choice : DescribesChoice A C c 1 vs
  pub behind : (k : ℤ) (p : List ℕ) → IsListedVariant k p ws → IsListedVariant k p vs

-- a variant: its fields behind a tag
abbrev pub case_in : {C : List ℕ → Option Shape} {A : Type 0} {k : ℕ} {n : List ℕ} {vs : List (ℤ × List ℕ)} {c : Codec A} → nat_lt k 256 ≡ true → Describes A C c n
    → CasesIn {A = TagOf k × A} C (contramap (λ v. v.1) (behind_tag k c)) ((pos k, n) ∷ vs) vs
case_in t d = record {
  choice = choice_contramap (λ v. v.1) (choice_tag first_variant t d);
  behind = λ j p l. later_variant l;
}

-- some variants, and then others
abbrev pub fork_in : {C : List ℕ → Option Shape} {A B : Type 0} {us vs ws : List (ℤ × List ℕ)} {a : Codec A} {b : Codec B} → CasesIn C a us vs → CasesIn C b vs ws → CasesIn C (fork a b) us ws
fork_in d e = record {
  choice = choice_contramap fork_view (choice_either d.choice (choice_among d.behind e.choice));
  behind = λ j p l. d.behind j p (e.behind j p l);
}

-- an enum, whose variants these are
abbrev pub describes_enum : {C : List ℕ → Option Shape} {S A : Type 0} {name : List ℕ} {vs : List (ℤ × List ℕ)} {c : Codec A} (view : S → A) → C name ≡ Some (choice 1 vs) → CasesIn C c vs [] → Describes S C (contramap view c) name
describes_enum view h d = describes_contramap view (describes_choice h d.choice)

-- the same with a codec of its own, in every container with the parts
pub record DescribedCases (A : Type 0) (vs ws : List Row) (ps : DefinitionTree) : Type 1 where
  pub codec : Codec A
  pub cases : (C : List ℕ → Option Shape) → Holds C ps → CasesIn C codec (listed vs) (listed ws)

-- a variant: its fields, seen through a view, behind a tag
abbrev pub case_described : {A B : Type 0} {k : ℕ} {name n : List ℕ} {d : Form} {vs : List Row} (view : B → A) (fields : DescribedFields A) → shape_of_form d ≡ product fields.names → nat_lt k 256 ≡ true
    → DescribedCases (TagOf k × B) ((pos k, name, n) ∷ vs) vs (defined n d fields.parts)
case_described {k = k} view fields e t = record {
  codec = contramap (λ v. v.1) (behind_tag k (contramap view fields.codec));
  cases = λ C h. case_in t (describes_contramap view (describes_parts (h.0 ∙ ap Some e) (fields.describes C h.1)));
}

-- some variants, and then others
abbrev pub fork_described : {A B : Type 0} {us vs ws : List Row} {ps qs : DefinitionTree} → DescribedCases A us vs ps → DescribedCases B vs ws qs → DescribedCases (Fork A B) us ws (both ps qs)
fork_described d e = record { codec = fork d.codec e.codec; cases = λ C h. fork_in (d.cases C h.0) (e.cases C h.1) }

-- an enum, whose variants these are
abbrev pub enum_described : {S A : Type 0} {name : List ℕ} {vs : List Row} {ps : DefinitionTree} → (S → A) → DescribedCases A vs [] ps → DescribedCodec S name (defined name (choice 1 vs) ps)
enum_described view d = record {
  codec = contramap view d.codec;
  describes = λ C h. describes_enum view h.0 (d.cases C h.1);
}
