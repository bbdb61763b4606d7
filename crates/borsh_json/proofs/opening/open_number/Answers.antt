use Rattle.std.proofs.Common.{List, ℕ, refl, subst, take}
use Rattle.borsh_json.specs.Table.{whole, IsWhole}
use Rattle.borsh_json.proofs.{OpeningLaws.{opened_leaf, denied, refuses_expected}, RepresentsLaws.{kind_small, number_one}}
use Rattle.borsh_json.proofs.opening.open_number.Goals as goal

pub returns-in_default : goal.returns-in_default
returns-in_default c F ns x j h b =
    let n = c.args.number in
    refuses_expected F ns x j c.unless.result c.unless.ensures (denied F ns x j (whole n.size n.is_signed n.is_non_zero) h (λ own ps s. c.in_default.ensures j b s.0 s.1))

pub returns-in_ok-put_number-in-Some-bytes : goal.returns-in_ok-put_number-in-Some-bytes
returns-in_ok-put_number-in-Some-bytes c F ns x j h b =
    let n = c.args.number in
    let small = kind_small F h n.size n.is_signed n.is_non_zero refl in
    opened_leaf F ns x j (whole n.size n.is_signed n.is_non_zero) c.args.out.now.items c.put_number.new.out.items (take n.size c.in-Some-bytes.bytes) h (c.in_ok-put_number-in-Some-bytes.ensures small) (c.in-Some.text.now, c.in-Some.ensures j b, c.in-Some-bytes.ensures small, refl)

pub returns-in-None : goal.returns-in-None
returns-in-None c F ns x j h b =
    let n = c.args.number in
    let small = kind_small F h n.size n.is_signed n.is_non_zero refl in
    refuses_expected F ns x j c.unless-in-None.result c.unless-in-None.ensures (denied F ns x j (whole n.size n.is_signed n.is_non_zero) h (λ own ps s. c.in-None.ensures small own (subst (λ (t : List ℕ). IsWhole n.size n.is_signed n.is_non_zero t own) (number_one n.size s.0 c.in-Some.text.now j s.1 (c.in-Some.ensures j b)) s.2)))
