use Rattle.std.proofs.Common.{rules, ◌≡◌, None, inl, inr, sym, subst}
use Rattle.std.specs.Prelude.{MatchOption}
use Rattle.borsh_source.specs.Errors.{IsNoFormat}
use Rattle.borsh_source.specs.Formats.{IsFormat}
use Rattle.borsh_source.proofs.Unknown.{no_format}
use Rattle.borsh_source.proofs.formats.format_of.Goals as goal

pub returns-in-Some : goal.returns-in-Some
returns-in-Some c = inl c.in-Some.ensures

pub returns-in-Some-non_zero_width_of : goal.returns-in-Some-non_zero_width_of
returns-in-Some-non_zero_width_of c = inr c.in-Some-non_zero_width_of.ensures

pub returns-in_err-kind : goal.returns-in_err-kind
returns-in_err-kind c =
    let e : c.from_residual.result ≡ None = search rules in
    subst (λ r. MatchOption r (IsNoFormat c.args.name.now) (λ p. IsFormat c.args.name.now p.0.now p.1)) (sym e) (no_format c.args.name.now c.in_default.ensures c.in_default-non_zero_width_of.ensures c.in_err-kind.ensures)
