-- How joined definitions follow one after another.
use Rattle.std.proofs.Common.{◌≡◌, ℕ, List, Some, ◌⊎◌, inl, inr}
use Rattle.borsh_schema.specs.declared.definitions.SchemaBuildError.{SchemaBuildError}
use Rattle.borsh_schema.specs.declared.definitions.SchemaBuildError.TheVariants.{Redefinition, OutOfMemory}
use Rattle.borsh_definitions.specs.Described.{Form, DefinitionMap, DefinitionTree, none, defined, both, IsInTree}
use Rattle.borsh_schema.specs.Joined.{IsDefinedIn, IsUnion, BuildFault, UnionFails}

-- ---- what is given

given_first : (a : DefinitionMap) (ps qs : DefinitionTree) (n : List ℕ) (d : Form) → IsDefinedIn a ps n d → IsDefinedIn a (both ps qs) n d
given_first a ps qs n d (inl h) = inl h
given_first a ps qs n d (inr h) = inr (inl h)

-- what is in b or among qs is in a or among all
given_then : (a b : DefinitionMap) (ps qs : DefinitionTree) → ((n : List ℕ) (d : Form) → b n ≡ Some d → IsDefinedIn a ps n d) → (n : List ℕ) (d : Form) → IsDefinedIn b qs n d → IsDefinedIn a (both ps qs) n d
given_then a b ps qs only n d (inl h) = given_first a ps qs n d (only n d h)
given_then a b ps qs only n d (inr h) = inr (inr h)

-- ---- joining

pub joined_none : (a : DefinitionMap) → IsUnion a none a
joined_none a = record { keeps = λ n d h. h; has = λ n d h. absurd h; only = λ n d h. inl h }

has_both : {a b c : DefinitionMap} (ps qs : DefinitionTree) → IsUnion a ps b → IsUnion b qs c → (n : List ℕ) (d : Form) → IsInTree n d ps ⊎ IsInTree n d qs → c n ≡ Some d
has_both ps qs p q n d (inl h) = q.keeps n d (p.has n d h)
has_both ps qs p q n d (inr h) = q.has n d h

-- some parts and then others are all of them
pub joined_then : {a b c : DefinitionMap} {ps qs : DefinitionTree} → IsUnion a ps b → IsUnion b qs c → IsUnion a (both ps qs) c
joined_then {a = a} {b = b} {ps = ps} {qs = qs} p q = record {
  keeps = λ n d h. q.keeps n d (p.keeps n d h);
  has = has_both ps qs p q;
  only = λ n d h. given_then a b ps qs p.only n d (q.only n d h);
}

-- ---- refusals

fault_as : (a b : DefinitionMap) (ps qs : DefinitionTree) → ((n : List ℕ) (d : Form) → IsDefinedIn b ps n d → IsDefinedIn a qs n d) → (e : SchemaBuildError) → BuildFault b ps e → BuildFault a qs e
fault_as a b ps qs f (Redefinition m) h = record { first = h.first; second = h.second; has_first = f _ _ h.has_first; has_second = f _ _ h.has_second; apart = h.apart }
fault_as a b ps qs f OutOfMemory h = tt

-- an allocation failed before anything was put in
pub not_joined_at_all : (a : DefinitionMap) (ps : DefinitionTree) {e : SchemaBuildError} → e ≡ OutOfMemory → UnionFails a ps a e
not_joined_at_all a ps h = rw h (record { partly = record { keeps = λ n d k. k; only = λ n d k. inl k }; fault = tt })

-- the first parts were refused
pub not_joined_first : {a b : DefinitionMap} {ps : DefinitionTree} (qs : DefinitionTree) {e : SchemaBuildError} → UnionFails a ps b e → UnionFails a (both ps qs) b e
not_joined_first {a = a} {ps = ps} qs {e = e} h = record {
  partly = record { keeps = h.partly.keeps; only = λ n d k. given_first a ps qs n d (h.partly.only n d k) };
  fault = fault_as a a ps (both ps qs) (given_first a ps qs) e h.fault;
}

-- the first parts were put in, and the others were refused
pub not_joined_then : {a b c : DefinitionMap} {ps qs : DefinitionTree} {e : SchemaBuildError} → IsUnion a ps b → UnionFails b qs c e → UnionFails a (both ps qs) c e
not_joined_then {a = a} {b = b} {ps = ps} {qs = qs} {e = e} p h = record {
  partly = record { keeps = λ n d k. h.partly.keeps n d (p.keeps n d k); only = λ n d k. given_then a b ps qs p.only n d (h.partly.only n d k) };
  fault = fault_as a b qs (both ps qs) (given_then a b ps qs p.only) e h.fault;
}

-- ---- one definition, and then other parts

given_defined : (a : DefinitionMap) (n : List ℕ) (d : Form) (ps : DefinitionTree) (m : List ℕ) (e : Form) → IsDefinedIn a (both (defined n d none) ps) m e → IsDefinedIn a (defined n d ps) m e
given_defined a n d ps m e (inl h) = inl h
given_defined a n d ps m e (inr (inl (inl h))) = inr (inl h)
given_defined a n d ps m e (inr (inl (inr h))) = absurd h
given_defined a n d ps m e (inr (inr h)) = inr (inr h)

part_defined : (n : List ℕ) (d : Form) (ps : DefinitionTree) (m : List ℕ) (e : Form) → IsInTree m e (defined n d ps) → IsInTree m e (both (defined n d none) ps)
part_defined n d ps m e (inl h) = inl (inl h)
part_defined n d ps m e (inr h) = inr h

pub joined_defined : {a b : DefinitionMap} {n : List ℕ} {d : Form} {ps : DefinitionTree} → IsUnion a (both (defined n d none) ps) b → IsUnion a (defined n d ps) b
joined_defined {a = a} {n = n} {d = d} {ps = ps} p = record {
  keeps = p.keeps;
  has = λ m e h. p.has m e (part_defined n d ps m e h);
  only = λ m e h. given_defined a n d ps m e (p.only m e h);
}

pub not_joined_defined : {a b : DefinitionMap} {n : List ℕ} {d : Form} {ps : DefinitionTree} {e : SchemaBuildError} → UnionFails a (both (defined n d none) ps) b e → UnionFails a (defined n d ps) b e
not_joined_defined {a = a} {n = n} {d = d} {ps = ps} {e = e} h = record {
  partly = record { keeps = h.partly.keeps; only = λ m f k. given_defined a n d ps m f (h.partly.only m f k) };
  fault = fault_as a a (both (defined n d none) ps) (defined n d ps) (given_defined a n d ps) e h.fault;
}
