-- Many fields in groups, with what describes all of them one after another, as the data of an implementation.
use Rattle.std.proofs.Common.{List, [], ◌∷◌, ◌++◌, Option, ℕ, sym, subst, append-nil, append_assoc}
use Rattle.std.specs.Prelude.{⊤}
use Rattle.borsh_codec.specs.Codec.{Codec}
use Rattle.borsh_codec.specs.Shapes.{contramap, pair, unit}
use Rattle.borsh_codec.proofs.Laws.Lists.{joined_some}
use Rattle.borsh_walks.specs.Container.{Shape, Members, no_members, more_members}
use Rattle.borsh_definitions.specs.Described.{DefinitionTree, none, defined, both}
use Rattle.borsh_definitions.specs.Language.{Holds, DescribesAll, DescribedFields}
use Rattle.borsh_definitions.proofs.Laws.Members.{all_none, all_more, all_contramap}

-- the definitions of some fields and then those of others, in the form that fields without groups have
abbrev pub joined : DefinitionTree → DefinitionTree → DefinitionTree
joined none qs = qs
joined (defined n d ps) qs = both (defined n d ps) qs
joined (both ps rest) qs = both ps (joined rest qs)

pub holds_joined : (C : List ℕ → Option Shape) (ps qs : DefinitionTree) → Holds C (joined ps qs) → Holds C ps × Holds C qs
holds_joined C none qs h = (tt, h)
holds_joined C (defined n d ps) qs h = h
holds_joined C (both ps rest) qs h = let k = holds_joined C rest qs h.1 in ((h.0, k.0), k.1)

module _ {C : List ℕ → Option Shape} where
  members_joined : {ns ms : List (List ℕ)} {x y : List ℕ} → Members C ns x → Members C ms y → Members C (ns ++ ms) (x ++ y)
  members_joined no_members q = q
  members_joined {ms = ms} {y = y} (more_members {p = n} {bs = bs} {cs = cs} {ps = ns} p ps) q =
      subst (Members C (n ∷ (ns ++ ms))) (sym (append_assoc bs cs y)) (more_members p (members_joined ps q))

  pub all_joined : {A B : Type 0} {ns ms : List (List ℕ)} {a : Codec A} {b : Codec B} → DescribesAll A C a ns → DescribesAll B C b ms → DescribesAll (A × B) C (pair a b) (ns ++ ms)
  all_joined {ns = ns} {ms = ms} {a = a} {b = b} d e = record {
    members = λ v x f. (let p = joined_some (a.encoding v.0) (b.encoding v.1) x f in
        subst (Members C (ns ++ ms)) (sym p.whole) (members_joined (d.members v.0 p.first p.left) (e.members v.1 p.second p.right)));
  }

  pub all_last : {A : Type 0} {ns : List (List ℕ)} {c : Codec A} → DescribesAll A C c ns → DescribesAll (A × ⊤) C (contramap (λ p. p.0) c) (ns ++ [])
  all_last {A = A} {ns = ns} {c = c} d = subst (DescribesAll (A × ⊤) C (contramap (λ p. p.0) c)) (sym (append-nil ns)) (all_contramap (λ p. p.0) d)

-- groups of fields one after another, with the codec of all and of a group before them
pub record DescribedGroups (A : Type 0) : Type 1 where
  pub names : List (List ℕ)
  pub parts : DefinitionTree
  pub codec : Codec A
  pub describes : (C : List ℕ → Option Shape) → Holds C parts → DescribesAll A C codec names
  pub behind : {B : Type 0} → Codec B → Codec (B × A)
  pub describes_behind : {B : Type 0} {c : Codec B} {ns : List (List ℕ)} (C : List ℕ → Option Shape) → DescribesAll B C c ns → Holds C parts → DescribesAll (B × A) C (behind c) (ns ++ names)

abbrev pub no_groups : DescribedGroups ⊤
no_groups = record {
  names = [];
  parts = none;
  codec = unit;
  describes = λ C h. all_none;
  behind = λ c. contramap (λ p. p.0) c;
  describes_behind = λ C d h. all_last d;
}

abbrev pub more_groups : {A B : Type 0} → DescribedFields A → DescribedGroups B → DescribedGroups (A × B)
more_groups a rest = record {
  names = a.names ++ rest.names;
  parts = joined a.parts rest.parts;
  codec = rest.behind a.codec;
  describes = λ C h. (let k = holds_joined C a.parts rest.parts h in rest.describes_behind C (a.describes C k.0) k.1);
  behind = λ c. pair c (rest.behind a.codec);
  describes_behind = λ C e h. (let k = holds_joined C a.parts rest.parts h in all_joined e (rest.describes_behind C (a.describes C k.0) k.1));
}

-- the same as fields
abbrev pub groups_described : {A : Type 0} → DescribedGroups A → DescribedFields A
groups_described g = record {
  names = g.names;
  parts = g.parts;
  codec = g.codec;
  describes = g.describes;
  behind = λ c. pair c g.codec;
  describes_behind = λ C e h. all_more e (g.describes C h);
}
