use Rattle.std.proofs.{Common.{◌∙◌, map, string_bytes, sym, subst, refl, List, ℕ, bytes_eq, btree_map_len}, lemmas.List.Sorted.{length_permutation}}
use Rattle.std.specs.List.{IsDistinct}
use Rattle.borsh_json.specs.{Frames.{IsText}, Table.{entries_of}}
use Rattle.borsh_json.proofs.{FieldLaws.{in_place, wanted}, MemberLaws.{keyed_length}, PartsLaws.{all_found, all_others, names_of}}
use Rattle.borsh_json.proofs.maps.fields_of.Goals as goal

pub returns-in-Some : goal.returns-in-Some
returns-in-Some c d j b =
    let a = c.in-Some.ensures j b in
    let p = in_place c.args.fields.now.items a.0 c.in-Some.members d a.2 a.3 in
    (a.0, p.0, a.1, p.1, p.2)

pub returns-in-Ok : goal.returns-in-Ok
returns-in-Ok c d j b =
    let fs = c.args.fields.now.items in
    let m = c.in-Ok.members in
    let a = c.in-Ok.ensures j b in
    let e = subst (λ (l : List (List ℕ)). IsDistinct bytes_eq l) (sym (names_of (λ f. string_bytes f.0) (λ f. string_bytes f.1) fs)) d in
    (a.0, btree_map_len m, a.2, keyed_length IsText m.entries a.1 a.4 ∙ length_permutation (entries_of a.0) a.1 a.3, (e, all_found m (map wanted fs) a.0 a.5, refl, all_others m a.0 a.5))

pub returns-in-Err : goal.returns-in-Err
returns-in-Err c d j b = c.in-Err.ensures j b
