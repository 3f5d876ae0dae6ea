-- The place of a source symbol that peeling leaves unknown.
use Rattle.std.proofs.Common.{◌≡◌, ℕ, ◌<◌, List, length, Contains, slice_index, sym, ap, ◌∙◌}
use Rattle.std.proofs.Common.{subst}
use Rattle.std.proofs.lemmas.List.{get_or_default}
use Rattle.peeling.specs.Decoder.{Decoder}
use Rattle.fec_session.specs.Residue.{place, unknown_columns}
use Rattle.fec_session.specs.NullPairing.{HasPlaces, IsUnknownColumn}

module _ (d : Decoder) (places : HasPlaces d) (e : ℕ) (unknown : IsUnknownColumn d e)
    (columns : List ℕ) (same : columns ≡ unknown_columns d) where
  -- it is among the columns
  pub found : Contains columns e
  found =
      let inside : place d e < length (unknown_columns d) = places.inside e unknown in
      subst (λ (cs : List ℕ). Contains cs e) (sym same) (
        place d e,
        inside,
        get_or_default (unknown_columns d) (place d e) e 0 inside
            ∙ places.same_column e unknown,
      )

  -- at its place alone
  pub place_is : (p : ℕ) → p < length columns → slice_index columns p ≡ e → p ≡ place d e
  place_is p lt at =
      let inside : p < length (unknown_columns d) =
      subst (λ (cs : List ℕ). p < length cs) same lt in
      let there : slice_index (unknown_columns d) p ≡ e =
      subst (λ (cs : List ℕ). slice_index cs p ≡ e) same at in
      sym (places.same_place p inside) ∙ ap (place d) there
