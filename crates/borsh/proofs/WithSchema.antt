-- Values that are sent behind the container of their type.
use Rattle.std.proofs.Common.{◌≡◌, Bool, true, false, List, ℕ, Option, refl, sym, ◌∙◌, subst, true≢false, Decides, Vec, Global, Ok, Err}
use Rattle.borsh_io.specs.declared.error.ErrorKind.{ErrorKind}
use Rattle.borsh_io.specs.declared.error.ErrorKind.TheVariants.{InvalidData, OutOfMemory}
use Rattle.borsh_codec.specs.Codec.{Codec, IsDecodable, Lawful}
use Rattle.borsh_codec.specs.Shapes.{pair}
use Rattle.borsh_codec.proofs.Laws.Lists.{same_front, decodable_prefix_free, some_same}
use Rattle.borsh_codec.proofs.Laws.Pairs.{pair-lawful}
use Rattle.borsh_codec.specs.Reading.{WhyNotDecoded}
use Rattle.borsh_codec.specs.Reading.WhyNotDecoded.{malformed as no_whole, no_memory as whole_memory}
use Rattle.borsh_codec.specs.Writing.{WhyNotEncoded}
use Rattle.borsh_codec.specs.Writing.WhyNotEncoded.{no_encoding as no_bytes, no_memory as no_room}
use Rattle.borsh_schema.specs.declared.container.BorshSchemaContainer.{BorshSchemaContainer}
use Rattle.borsh_schema.specs.Codecs.{container}
use Rattle.borsh_schema.specs.Containers.{IsContainerOf, map_of}
use Rattle.std.specs.String.{string_cmp}
use Rattle.std.specs.BTreeMap.{IsOrdered}
use Rattle.borsh_io.specs.declared.error.Error.{Error}
use Rattle.borsh_io.specs.Errors.{error_kind}
use Rattle.borsh_definitions.specs.Described.{DefinitionTree}
use Rattle.borsh_schema.proofs.Laws.Sameness.{container-lawful, container_same, given_in, encoded_once, one_encoding}
use Rattle.borsh.specs.WithSchema.{IsWithSchema, HasClash, EncodesWithSchema, DecodesWithSchema, IsReadWithSchema, IsPairRead, WhyNoContainer, WhyNotWritten, WhyNotRead}
use Rattle.borsh.specs.WithSchema.WhyNoContainer.{clashing, memory}
use Rattle.borsh.specs.WithSchema.WhyNotWritten.{clashes as unwritten_clashes, no_container, no_encoding, no_memory as unwritten_memory}
use Rattle.borsh.specs.WithSchema.WhyNotRead.{malformed, other_schema, clashes, no_memory as unread_memory}

-- the type's container wasn't written
pub not_written_vector : {name : List ℕ} {ps : DefinitionTree} {encoding : Option (List ℕ)} {k : ErrorKind} (c : BorshSchemaContainer) → IsContainerOf name ps c → IsOrdered string_cmp (map_of c) → WhyNotEncoded (container.encoding c) k → WhyNotWritten name ps encoding k
not_written_vector c is o (no_bytes e n) = no_container e (record { own = c; is = is; ascending = o; none = n })
not_written_vector c is o (no_room e) = unwritten_memory e

-- a type with a container has no clash
never_clashes : {name : List ℕ} {ps : DefinitionTree} {c : BorshSchemaContainer} → IsContainerOf name ps c → HasClash ps → ⊥
never_clashes is h = let j = is.definitions in h.clash.apart (some_same _ _ (sym (given_in j h.clash.has_first) ∙ given_in j h.clash.has_second))

module _ {name : List ℕ} {ps : DefinitionTree} {encoding : Option (List ℕ)} where
  -- where container and value have encodings, an allocation failure is the one refusal
  not_written_is_memory : {x : List ℕ} {k : ErrorKind} → IsWithSchema name ps encoding x → WhyNotWritten name ps encoding k → k ≡ OutOfMemory
  not_written_is_memory w (unwritten_clashes r h) = absurd (never_clashes w.sent.is h)
  not_written_is_memory w (no_container e h) =
      let f = encoded_once h.own w.sent.own h.is h.ascending w.sent.is w.sent.encoded in
      let n = h.none in absurd (cc)
  not_written_is_memory w (no_encoding e n) = let i = w.is in absurd (cc)
  not_written_is_memory w (unwritten_memory e) = e

  -- the type's container wasn't built
  pub not_written_container : {k : ErrorKind} → WhyNoContainer ps k → WhyNotWritten name ps encoding k
  not_written_container (clashing r h) = unwritten_clashes r h
  not_written_container (memory e) = unwritten_memory e

  -- the bytes of container and value are one list
  written_once : {x y : List ℕ} → IsWithSchema name ps encoding x → IsWithSchema name ps encoding y → x ≡ y
  written_once v w =
      let front = one_encoding v.sent.own w.sent.own v.sent.is w.sent.is v.sent.encoded w.sent.encoded in
      let value = some_same v.value w.value (sym v.is ∙ w.is) in
      let p = v.sent.whole in let q = w.sent.whole in cc

  pub encodes_ok : {out : Vec ℕ Global} → IsWithSchema name ps encoding out.items → EncodesWithSchema name ps encoding (Ok out)
  encodes_ok w = record { ok = w; err = tt; exact = λ x u. written_once w u }

  pub encodes_err : (e : Error) → WhyNotWritten name ps encoding (error_kind e) → EncodesWithSchema name ps encoding (Err e)
  encodes_err e w = record { ok = tt; err = w; exact = λ x u. not_written_is_memory u w }

-- a container is read from its encoding alone
pub pair_read : {B : Type 0} {c : Codec B} {bytes : List ℕ} {v : BorshSchemaContainer × B} → (pair container c).decodes true bytes v → IsPairRead container c bytes v
pair_read {v = v} r = record { front = r.first; rest = r.second; whole = r.whole; first = container-lawful.canonical r.first v.0 refl r.left; second = r.right }

module _ {B : Type 0} {name : List ℕ} {ps : DefinitionTree} {c : Codec B} {bytes : List ℕ} where
  -- the bytes are no container and a value behind it, or an allocation failed
  pub not_read_pair : {k : ErrorKind} → WhyNotDecoded (pair container c) true bytes k → WhyNotRead name ps c bytes k
  not_read_pair (no_whole r n) = malformed r n
  not_read_pair (whole_memory e a) = unread_memory e

  -- it isn't known whether the container in front is the type's
  pub not_read_own : {k : ErrorKind} → IsDecodable (pair container c) true bytes → WhyNoContainer ps k → WhyNotRead name ps c bytes k
  not_read_own w (clashing r h) = clashes r h w
  not_read_own w (memory e) = unread_memory e

  module _ {v : BorshSchemaContainer × B} {own : Bool} (p : IsPairRead container c bytes v) (d : Decides own (IsContainerOf name ps v.0)) where
    -- the container in front isn't the type's
    pub not_read_other : {k : ErrorKind} → own ≡ false → k ≡ InvalidData → WhyNotRead name ps c bytes k
    not_read_other e i =
        other_schema i (record { sent = v.0; front = p.front; rest = p.rest; encoded = p.first; whole = p.whole; value = (v.1, p.second); other = λ h. absurd (true≢false (sym (d.1 h) ∙ e)) })

    -- the container in front is the type's
    pub read_behind : own ≡ true → IsReadWithSchema name ps c bytes v.1
    read_behind e = record { rest = p.rest; decodes = p.second; sent = record { own = v.0; is = d.0 e; front = p.front; encoded = p.first; whole = p.whole } }

  module _ {x : B} (w : IsReadWithSchema name ps c bytes x) where
    front_decodes : container.decodes true w.sent.front w.sent.own
    front_decodes = container-lawful.round_trip true w.sent.own w.sent.front w.sent.encoded

    both_decode : (pair container c).decodes true bytes (w.sent.own, x)
    both_decode = record { first = w.sent.front; second = w.rest; whole = w.sent.whole; left = front_decodes; right = w.decodes }

    -- the type's container and a value behind it are refused only if an allocation failed
    pub not_read_is_memory : {k : ErrorKind} → WhyNotRead name ps c bytes k → k ≡ OutOfMemory
    not_read_is_memory (malformed r n) = absurd (n ((w.sent.own, x), both_decode))
    not_read_is_memory (other_schema e o) =
        let r = container-lawful.round_trip true o.sent o.front o.encoded in
        let f = same_front (IsDecodable container true) (decodable_prefix_free container-lawful true) o.front o.rest w.sent.front w.rest (o.sent, r) (w.sent.own, front_decodes) (sym o.whole ∙ w.sent.whole) in
        let s = container-lawful.unambiguous true o.front o.sent w.sent.own r (subst (λ y. container.decodes true y w.sent.own) (sym f.0) front_decodes) in
        absurd (o.other (container_same o.sent w.sent.own s w.sent.is))
    not_read_is_memory (clashes r h d) =
        let j = w.sent.is.definitions in
        absurd (h.clash.apart (some_same _ _ (sym (given_in j h.clash.has_first) ∙ given_in j h.clash.has_second)))
    not_read_is_memory (unread_memory e) = e

  -- one value follows the type's container
  pub read_once : Lawful B c → {x y : B} → IsReadWithSchema name ps c bytes y → IsReadWithSchema name ps c bytes x → c.equivalent y x
  read_once l {x = x} {y = y} v w = ((pair-lawful container-lawful l).unambiguous true bytes (v.sent.own, y) (w.sent.own, x) (both_decode v) (both_decode w)).1

  pub decodes_err : (e : Error) → WhyNotRead name ps c bytes (error_kind e) → DecodesWithSchema name ps c bytes (Err e)
  decodes_err e n = record { ok = tt; made = tt; err = n; exact = λ x w. not_read_is_memory w n }

  pub decodes_ok : Lawful B c → {v : B} → c.made v → IsReadWithSchema name ps c bytes v → DecodesWithSchema name ps c bytes (Ok v)
  decodes_ok l m r = record { ok = r; made = m; err = tt; exact = λ x w. read_once l r w }
