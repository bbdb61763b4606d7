use Rattle.std.proofs.Common.{◌≡◌, [], true, refl, subst, sym, pos}
use Rattle.json.specs.Json.{string}
use Rattle.borsh_json.specs.{declared.kinds.KeyKind.{KeyKind}, declared.sources.EntryKey.TheVariants.{Text, Rank}, Forms.{form_of}, Frames.{IsEntryKey}, Integers.{integer_of}, Places.{AreKeysOf, lengths_of}, Represents.{SaysFirst}, Table.{Keys, key_json, utf8, whole}}
use Rattle.borsh_json.proofs.{KeyJson.{number_key}, LeafLaws.{bare_opened, defined, number_there, number_zero}, ListLaws.{list_node, no_text, tells_count, text_says}, leaves.write_key.Goals.{else-number-via-then-number+else-is_zero, else-number-via-else-number}}
use Rattle.borsh_json.proofs.leaves.write_key.Goals as goal

pub returns-in_ok-put-in-Ok : goal.returns-in_ok-put-in-Ok
returns-in_ok-put-in-Ok c = λ F ns k keys parts o a.
    let n = c.args.node.now in
    let f = form_of n.definition.now in
    let es = c.elements_of.result.now in
    let l = lengths_of f in
    let h = subst (λ (q : KeyKind). AreKeysOf F ns k f q keys) c.in-Text.is a in
    let d = list_node F k n.bytes.now es parts (utf8 l) n.definition.now 0 (defined F ns k f (utf8 l) o.0 (λ e. cc) h.1) tt (λ e b. b.1) o.1 c.elements_of.ensures in
    let t = c.in-Ok.ensures.cases in
    let s = c.in-Ok.text.now in
    let says = subst (λ s. SaysFirst F k (string s) n.bytes.now []) (sym t.0) (text_says F k n.bytes.now es l d.1 h.1 t.1) in
    (d.0, (s, subst (λ (q : KeyKind). IsEntryKey q (Text c.in-Ok.text) s) (sym c.in-Text.is) refl, c.in_ok-put-in-Ok.ensures, subst (λ (q : Keys). SaysFirst F k (key_json q s) n.bytes.now []) (sym h.0) says))

pub returns-in-Err : goal.returns-in-Err
returns-in-Err c = λ F ns k keys parts o a.
    let n = c.args.node.now in
    let f = form_of n.definition.now in
    let es = c.elements_of.result.now in
    let l = lengths_of f in
    let h = subst (λ (q : KeyKind). AreKeysOf F ns k f q keys) c.in-Text.is a in
    let d = list_node F k n.bytes.now es parts (utf8 l) n.definition.now 0 (defined F ns k f (utf8 l) o.0 (λ e. cc) h.1) tt (λ e b. b.1) o.1 c.elements_of.ensures in
    (d.0, ((l, h.1), no_text F k n.bytes.now es l d.1 h.1 (tells_count f o.2) c.in-Err.ensures.cases.0))

pub returns-then-is_zero : goal.returns-then-is_zero
returns-then-is_zero c = λ F ns k keys parts o a.
    let own = c.args.node.now.bytes.now in
    let f = form_of c.args.node.now.definition.now in
    let n = c.in-Number.number in
    let h = subst (λ (q : KeyKind). AreKeysOf F ns k f q keys) c.in-Number.is a in
    let b = bare_opened F ns k f (whole n.size n.is_signed n.is_non_zero) own parts o tt h.1 in
    (b.0, number_zero F k own c.args.out.now c.args.out.now n.size n.is_signed n.is_non_zero (integer_of c.decode-integer.result) h.1 b.1 c.decode-integer.ensures c.if-number.true (c.is_zero.ensures.0 c.if-is_zero.true))

pub returns-in_ok-put-in-Number : goal.returns-in_ok-put-in-Number
returns-in_ok-put-in-Number c = λ F ns k keys parts o a.
    let own = c.args.node.now.bytes.now in
    let f = form_of c.args.node.now.definition.now in
    let n = c.in-Number.number in
    let z = integer_of c.decode-integer.result in
    let h = subst (λ (q : KeyKind). AreKeysOf F ns k f q keys) c.in-Number.is a in
    let b = bare_opened F ns k f (whole n.size n.is_signed n.is_non_zero) own parts o tt h.1 in
    let some : n.is_non_zero ≡ true → z ≡ pos 0 → ⊥ = elim c.else-number.branch [
      | else-number-via-then-number+else-is_zero w ↦ (λ t e. (let f = w.if-is_zero.false in let g = w.is_zero.ensures.1 e in cc))
      | else-number-via-else-number w ↦ (λ t e. (let f = w.if-number.false in cc))
    ] in
    let i = number_there F k own c.args.out.now c.args.out.now n.size n.is_signed n.is_non_zero z h.1 b.1 c.decode-integer.ensures in
    let small = b.1.2 in
    let s = c.decimal.result.now in
    let t = c.decimal.ensures n.size n.is_signed small i.1 in
    (b.0, (s, subst (λ (q : KeyKind). IsEntryKey q (Rank c.rank.result) s) (sym c.in-Number.is) (z, t, i.1, some, c.rank.ensures n.size small i.1), c.in_ok-put-in-Number.ensures, number_key F ns k keys s n own h.0 h.1 (z, t, i.0, i.1, some)))
