use Rattle.std.proofs.Common.{◌≡◌, refl, sym, ◌∙◌, subst}
use Rattle.borsh_json.specs.{declared.position.Key.{Key}, declared.position.Key.TheVariants.{None as NoKey, Name, Entry as EntryOf}, declared.writing.Writing.{Writing}, Leaves.{Adds}}
use Rattle.borsh_json.proofs.{WritingPlaces.{key_tokens}, ListLaws.{none_added}, WriterLaws.{key_begun}}
use Rattle.borsh_json.proofs.writing.Writing.write_key.Goals as goal

pub returns-in-None-clause-key : goal.returns-in-None-clause-key
returns-in-None-clause-key c p a r b =
    let w = c.args.self.now in
    key_begun c.args.json.now w w p c.args.part a b (λ es e. let q : NoKey ≡ EntryOf es = sym c.in-None.is ∙ e in cc) r (subst (λ (k : Key). Adds (key_tokens k) w.out w.out) (sym c.in-None.is) (none_added w.out)) refl refl refl

pub returns-in_ok-put-in-Name-clause-key : goal.returns-in_ok-put-in-Name-clause-key
returns-in_ok-put-in-Name-clause-key c p a r b =
    let w = c.args.self.now in
    let new : Writing = record { walk = w.walk; position = w.position; out = c.put.new.self; bytes = w.bytes } in
    key_begun c.args.json.now w new p c.args.part a b (λ es e. let q : Name c.in-Name.name ≡ EntryOf es = sym c.in-Name.is ∙ e in cc) r (subst (λ (k : Key). Adds (key_tokens k) w.out c.put.new.self) (sym c.in-Name.is) c.in_ok-put-in-Name.ensures) refl refl refl

pub returns-in-Entry-clause-key : goal.returns-in-Entry-clause-key
returns-in-Entry-clause-key c p a r b = c.write_entry_key.ensures.key p c.args.part a r c.in-Entry.is b
