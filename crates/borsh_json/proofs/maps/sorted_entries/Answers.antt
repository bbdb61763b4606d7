use Rattle.std.proofs.Common.{ℕ, subst, refl, sym}
use Rattle.borsh_json.specs.{declared.kinds.KeyKind.{KeyKind}, declared.kinds.KeyKind.TheVariants.{Text as TextKeys}, declared.sources.Source.{Source}, declared.sources.Source.TheVariants.{Texts, Ranks}, Frames.{AreSorted}, Places.{AreKeysOf}, Table.{Keys}}
use Rattle.borsh_json.proofs.{MapLaws.{texts_sorted, ranks_sorted, texts_said, numbers_fail}, OpeningLaws.{refuses_keys}, RepresentsLaws.{kind_small}}
use Rattle.borsh_json.proofs.maps.sorted_entries.Goals as goal

pub returns-in-Some : goal.returns-in-Some
returns-in-Some c F ns x k v l g keys j h a b =
    let a2 = subst (λ (q : KeyKind). AreKeysOf F ns k g q keys) c.in-Text.is a in
    subst (λ (q : KeyKind). AreSorted keys q j c.in-Some.found) (sym c.in-Text.is) (subst (λ (q : Keys). AreSorted q TextKeys j c.in-Some.found) (sym a2.0) (c.in-Some.ensures j b))

pub returns-in-Ok : goal.returns-in-Ok
returns-in-Ok c F ns x k v l g keys j h a b =
    let a2 = subst (λ (q : KeyKind). AreKeysOf F ns k g q keys) c.in-Text.is a in
    let m = c.in-Ok.ensures j b in
    let r : Source × ℕ = (Texts c.in-Ok.members, c.len-count.result) in
    subst (λ (q : KeyKind). AreSorted keys q j r) (sym c.in-Text.is) (texts_sorted keys j c.len-count.result m.0 m.1 m.2 m.3 c.in-Ok.members a2.0 m.4 c.len-count.ensures.ordered c.len-count.ensures.len)

pub returns-in-Err : goal.returns-in-Err
returns-in-Err c F ns x k v l g keys j h a b = refuses_keys F ns x j c.in-Err.error (texts_said F ns x j l keys k v h) (c.in-Err.ensures j b)

pub returns-in-Ok-ranks_of : goal.returns-in-Ok-ranks_of
returns-in-Ok-ranks_of c F ns x k v l g keys j h a b =
    let n = c.in-Number.number in
    let a2 = subst (λ (q : KeyKind). AreKeysOf F ns k g q keys) c.in-Number.is a in
    let small = kind_small F a2.1 n.size n.is_signed n.is_non_zero refl in
    let m = c.in-Ok-ranks_of.ensures small j b in
    let r : Source × ℕ = (Ranks c.in-Ok-ranks_of.members, c.len-count-in-Ok-ranks_of.result) in
    subst (λ (q : KeyKind). AreSorted keys q j r) (sym c.in-Number.is) (ranks_sorted keys j c.len-count-in-Ok-ranks_of.result m.0 m.1 m.2 m.3 n c.in-Ok-ranks_of.members small a2.0 m.4 c.len-count-in-Ok-ranks_of.ensures.ordered c.len-count-in-Ok-ranks_of.ensures.len)

pub returns-in-Err-ranks_of : goal.returns-in-Err-ranks_of
returns-in-Err-ranks_of c F ns x k v l g keys j h a b =
    let n = c.in-Number.number in
    let a2 = subst (λ (q : KeyKind). AreKeysOf F ns k g q keys) c.in-Number.is a in
    let small = kind_small F a2.1 n.size n.is_signed n.is_non_zero refl in
    numbers_fail F ns x j l keys k v h n a2.0 a2.1 c.in-Err-ranks_of.error (c.in-Err-ranks_of.ensures small j b)
