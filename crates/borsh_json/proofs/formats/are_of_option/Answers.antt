use Rattle.std.proofs.Common.{◌≡◌, ◌∙◌, ◌∷◌, ◌++◌, [], List, ℕ, Decides, map, string_bytes, ap, subst, ℤ, pos, codes}
use Rattle.borsh_json.specs.{Forms.{choice}, Found.{forms_of}}
use Rattle.borsh_json.proofs.FoundLaws.{listed, listed_is, two_variants, option_needs, option_found, none_first}
use Rattle.borsh_json.proofs.formats.are_of_option.Goals as goal

pub returns-then-not-is_unit : goal.returns-then-not-is_unit
returns-then-not-is_unit c = λ x h p o.
    let d = c.args.definitions.now in
    let vs = map listed c.args.variants.now in
    let q = option_needs (forms_of d) x vs h.1 p o in
    let a = c.part.ensures x q.0 (choice 1 vs) h.0 h.1 (none_first (forms_of d) x vs h.1 p q.0 q.1) in
    let z = (c.is_unit.ensures q.0 a).1 q.2 in
    let t = c.if-not-is_unit.true in
    cc

pub returns : goal.returns
returns c = λ x h.
    let d = c.args.definitions.now in
    let vs = map listed c.args.variants.now in
    let a = c.index-variants-0.result in
    let b = c.index-variants-1.result in
    let first : ℤ × List ℕ × List ℕ = (pos 0, codes "None", string_bytes a.2) in
    let second : ℤ × List ℕ × List ℕ = (pos 1, codes "Some", string_bytes b.2) in
    let f = listed_is a (pos 0) (codes "None") (c.is_variant.ensures.0 c.if-not-is_variant.false) in
    let s = listed_is b (pos 1) (codes "Some") (c.is_variant-2.ensures.0 c.if-not-is_variant-2.false) in
    let e : vs ≡ first ∷ second ∷ [] = two_variants c.args.variants.now a b c.if-variants-ne2.false c.index-variants-0.is c.index-variants-1.is ∙ ap (λ v. v ∷ listed b ∷ []) f ∙ ap (λ v. first ∷ v ∷ []) s in
    let i = c.part.ensures x (string_bytes a.2) (choice 1 vs) h.0 h.1 (none_first (forms_of d) x vs h.1 (string_bytes b.2) (string_bytes a.2) e) in
    let z = (c.is_unit.ensures (string_bytes a.2) i).0 c.if-not-is_unit.false in
    let n = subst (λ n. Decides c.is_option_name.result (n ≡ codes "Option<" ++ string_bytes b.2 ++ codes ">")) (c.name.ensures x h.0) c.is_option_name.ensures in
    option_found (forms_of d) x vs h.1 (string_bytes a.2) (string_bytes b.2) e z c.is_option_name.result n
