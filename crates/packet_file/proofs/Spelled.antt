-- Headers and packets as bytes.
use Rattle.std.proofs.Common.{◌≡◌, ℕ, List, [], ◌∷◌, ◌++◌, length, take, drop}
use Rattle.std.proofs.Common.{slice_index, codes, sym, ap, ap₂, ◌∙◌, arith}
use Rattle.std.proofs.Common.{take-append-drop, length-drop, Result, Ok}
use Rattle.std.proofs.Common.{Err, IfOk, IfErr}
use Rattle.std.proofs.Math.Seq.{drop-cons}
use Rattle.std.proofs.lemmas.List.{take_all}
use Rattle.oti_fields.specs.Fields.{codec_number, oti_bytes}
use Rattle.oti_fields.specs.declared.codec.Codec.{Codec}
use Rattle.packet_file.specs.Faults.{AreNotZero, HasHeaderFault}
use Rattle.packet_file.specs.Header.{HeaderFields, header_bytes, version_number}
use Rattle.packet_file.specs.declared.version.Version.{Version}
use Rattle.packet_file.specs.declared.fault.FileFault.TheVariants.{BadReserved}

-- eight bytes in front of a header's fields
pub eight_bytes : (bytes : List ℕ) → length bytes ≡ 26 → take 4 bytes ≡ codes "OFPK"
    → bytes ≡ codes "OFPK" ++ slice_index bytes 4 ∷ slice_index bytes 5 ∷ slice_index bytes
    6 ∷ slice_index bytes 7 ∷ drop 8 bytes
eight_bytes bytes long magic =
    let fifth : drop 4 bytes ≡ slice_index bytes 4 ∷ drop 5 bytes =
    drop-cons bytes 4 0 (omega (arith, long)) in
    let sixth : drop 5 bytes ≡ slice_index bytes 5 ∷ drop 6 bytes =
    drop-cons bytes 5 0 (omega (arith, long)) in
    let seventh : drop 6 bytes ≡ slice_index bytes 6 ∷ drop 7 bytes =
    drop-cons bytes 6 0 (omega (arith, long)) in
    let eighth : drop 7 bytes ≡ slice_index bytes 7 ∷ drop 8 bytes =
    drop-cons bytes 7 0 (omega (arith, long)) in
    let behind : drop 4 bytes ≡ slice_index bytes 4 ∷ slice_index bytes 5 ∷ slice_index bytes
    6 ∷ slice_index bytes 7 ∷ drop 8 bytes =
    fifth ∙ ap (λ l. slice_index bytes 4 ∷ l) (sixth ∙ ap (λ l. slice_index bytes 5 ∷ l) (seventh
    ∙ ap (λ l. slice_index bytes 6 ∷ l) eighth)) in
    sym (take-append-drop 4 bytes) ∙ ap₂ (λ front rest. front ++ rest) magic behind

-- bytes with the magic, a version and a codec, and then two bytes that aren't both zero
pub not_reserved : (bytes : List ℕ) (version : Version) (codec : Codec) → length bytes ≡ 26
    → take 4 bytes ≡ codes "OFPK" → version_number version ≡ slice_index bytes 4
    → codec_number codec ≡ slice_index bytes 5
    → AreNotZero (slice_index bytes 6) (slice_index bytes 7) → HasHeaderFault bytes BadReserved
not_reserved bytes version codec long magic form number not_zero =
    let a : ℕ = slice_index bytes 6 in
    let b : ℕ = slice_index bytes 7 in
    let is : bytes ≡ codes "OFPK" ++ version_number version ∷ codec_number codec ∷ a ∷ b ∷ drop 8
    bytes =
    eight_bytes bytes long magic ∙ ap₂ (λ v n. codes "OFPK" ++ v ∷ n ∷ a ∷ b ∷ drop 8 bytes)
    (sym form) (sym number) in
    (long, version, codec, a, b, drop 8 bytes, is, not_zero)

-- eight bytes without a fault, and the fields behind them
pub header_joined : (bytes fields : List ℕ) (h : HeaderFields) → length bytes ≡ 26
    → take 8 bytes ≡ codes "OFPK" ++ version_number h.version ∷ codec_number h.codec ∷ 0 ∷ 0 ∷ []
    → fields ≡ take 18 (drop 8 bytes) → fields ≡ oti_bytes h.oti → bytes ≡ header_bytes h
header_joined bytes fields h long front rest spelled =
    let all : take 18 (drop 8 bytes) ≡ drop 8 bytes = take_all 18 (drop 8 bytes)
    (omega (arith, length-drop 8 bytes, long)) in
    sym (take-append-drop 8 bytes) ∙ ap₂ (λ before after. before ++ after) front (sym all ∙ sym rest
    ∙ spelled)

-- what holds of an answer, and what follows from it
pub if_ok : {T E : Type 0} (r : Result T E) (P Q : T → Type 0) → ((x : T) → P x → Q x) → IfOk r P
    → IfOk r Q
if_ok (Ok x) P Q follows p = follows x p
if_ok (Err e) P Q follows p = tt

pub if_err : {T E : Type 0} (r : Result T E) (P Q : E → Type 0) → ((e : E) → P e → Q e) → IfErr r P
    → IfErr r Q
if_err (Ok x) P Q follows p = tt
if_err (Err e) P Q follows p = follows e p
