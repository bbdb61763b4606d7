use Rattle.std.proofs.Common.{◌∙◌, subst, refl, take}
use Rattle.borsh_json.specs.{declared.kinds.KeyKind.{KeyKind}, declared.kinds.KeyKind.TheVariants.{Text as TextKeys, Number as NumberKeys}, declared.sources.EntryKey.{EntryKey}, Forms.{form_of}, Frames.{IsEntryKey}, Places.{AreKeysOf, lengths_of}}
use Rattle.borsh_json.proofs.{KeyJson.{text_key, number_key}, RepresentsLaws.{kind_small}}
use Rattle.borsh_json.proofs.parts.put_key.Goals as goal

pub returns-in-Text-key : goal.returns-in-Text-key
returns-in-Text-key c F ns k keys s a i =
    let g = form_of c.args.entries.key_definition.now in
    let a2 = subst (λ (q : KeyKind). AreKeysOf F ns k g q keys) c.in-Text.is a in
    let i2 = subst (λ (q : KeyKind). IsEntryKey q c.args.key s) c.in-Text.is i in
    let i3 = subst (λ (e : EntryKey). IsEntryKey TextKeys e s) c.in-Text-key.is i2 in
    let e = c.as_bytes.ensures.value in
    text_key F ns k keys s (lengths_of g) c.as_bytes.result.now c.args.out.now.items c.put_list.new.out.items a2.0 a2.1 (e ∙ i3) c.as_bytes.ensures.utf8 c.put_list.result c.put_list.ensures

pub returns-in_ok-put_number-in-Rank-key : goal.returns-in_ok-put_number-in-Rank-key
returns-in_ok-put_number-in-Rank-key c F ns k keys s a i =
    let g = form_of c.args.entries.key_definition.now in
    let n = c.in-Number.number in
    let a2 = subst (λ (q : KeyKind). AreKeysOf F ns k g q keys) c.in-Number.is a in
    let i2 = subst (λ (q : KeyKind). IsEntryKey q c.args.key s) c.in-Number.is i in
    let i3 = subst (λ (e : EntryKey). IsEntryKey (NumberKeys n) e s) c.in-Rank-key.is i2 in
    let small = kind_small F a2.1 n.size n.is_signed n.is_non_zero refl in
    (take n.size c.of_rank.result, c.in_ok-put_number-in-Rank-key.ensures small, number_key F ns k keys s n (take n.size c.of_rank.result) a2.0 a2.1 (c.of_rank.ensures s small i3))
