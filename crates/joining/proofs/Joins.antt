-- When two nets are joined, and that the answer is the card of the joined net: no more and no less than what its definition says. And nets that agree in all
-- that counts are joined alike.
use Rattle.std.specs.Prelude.{Err}
use Prim.Native.Nat.{ℕ, ◌≤◌, ◌<◌}
use mathlib.Core.Path.{◌≡◌, refl, sym, ap, ◌∙◌}
use mathlib.Core.Bool.{true, cond, ◌&&◌, and-eq-true_iff}
use mathlib.Core.List.{List, [], ◌∷◌}
use lib.ListN.{length}
use lib.Dec.{leb, eqb}
use borrow.Author.Tests.{leb-true}
use Rattle.laws.specs.Each.{Each, each_map}
use Rattle.reply.specs.declared.Refusal.TheVariants.{UnequalStarts, TooLarge}
use Rattle.reply.specs.Respond.{written_if, Checked, Passed}
use Rattle.reply.proofs.Laws.{written_answer}
use Rattle.form.specs.Form.{found, also, alone}
use Rattle.form.proofs.Found.{found_value, also_first, also_second, test_passed}
use Rattle.form.proofs.Card.{alone_read_back}
use Rattle.net.specs.declared.Net.{Net}
use Rattle.net.specs.Net.{net_card}
use Rattle.net.specs.Same.{SameNet}
use Rattle.net.proofs.Card.{net_inverse}
use Rattle.net.proofs.Same.{same_net_check}
use Rattle.operations.specs.Operation.{once_checked}
use Rattle.operations.proofs.Answers.{once_answer}
use Rattle.joining.specs.Joining.{pairs_of, equal_starts, joined_net, pairs_checked, starts_checked, size_checked, join_checked, join_of}
use Rattle.joining.specs.Request.{JoinedExactly, JoinSlots}
use Rattle.joining.proofs.Counting.{pairs_below}
use Rattle.joining.proofs.JoinedNet.{joined_clean, joined_same}
use Rattle.joining.proofs.Accepting.{joined_accepted}

-- ---- what passes
pub size_passed : (j : Net) → size_checked j ≡ Passed → (j.places ≤ 16) × (j.transitions ≤ 32)
size_passed j e =
    let h = (and-eq-true_iff (leb j.places 16) (leb j.transitions 32)).0 (test_passed (leb j.places 16 && leb j.transitions 32) TooLarge e) in
    (leb-true j.places 16 h.0, leb-true j.transitions 32 h.1)

-- the checks of a list that passes them all
pub record Passes (a b : Net) (list : List ℕ) : Type 0 where
  pub pairs : pairs_checked a.places b.places list ≡ Passed
  pub starts : equal_starts a.start b.start (pairs_of list) ≡ true
  pub few : (joined_net a b (pairs_of list)).places ≤ 16
  pub short : (joined_net a b (pairs_of list)).transitions ≤ 32

pub checks_passed : (a b : Net) (list : List ℕ) → join_checked a b list ≡ Passed → Passes a b list
checks_passed a b list e =
    let pairs = pairs_checked a.places b.places list in
    let starts = starts_checked a.start b.start list in
    let size = size_checked (joined_net a b (pairs_of list)) in
    let behind = also_second pairs (also starts size) e in
    let fits = size_passed (joined_net a b (pairs_of list)) (also_second starts size behind) in
    record {
      pairs = also_first pairs (also starts size) e;
      starts = test_passed (equal_starts a.start b.start (pairs_of list)) UnequalStarts (also_first starts size behind);
      few = fits.0;
      short = fits.1;
    }

-- ---- the card of the joined net is read as that net
module _ (a b : Net) (list : List ℕ) where
  abbrev whole : Net
  whole = joined_net a b (pairs_of list)

  module _ (first : net_card.check a 1 ≡ Passed) (second : net_card.check b 1 ≡ Passed) (e : join_checked a b list ≡ Passed) where
    pub joined_passed : net_card.check whole 1 ≡ Passed
    joined_passed =
        let h = checks_passed a b list e in
        let named = each_map (λ v k. k.1) (pairs_of list) (pairs_below a.places b.places list h.pairs) in
        joined_accepted a b (pairs_of list) named first second h.few h.short

    pub joined_read_back : alone net_card (net_card.text whole) ≡ found whole (length (net_card.text whole))
    joined_read_back =
        let h = checks_passed a b list e in
        alone_read_back net_inverse whole joined_passed
        ∙ ap (λ (n : Net). found n (length (net_card.text whole))) (joined_clean a b (pairs_of list) h.few h.short)

pub joined_exactly : JoinedExactly
joined_exactly a b j list = (
  λ h.
      let checked = also (net_card.check a 1) (net_card.check b 1) in
      let once = (once_answer checked (join_of a b list) h.0).0 h.1 in
      let first = also_first (net_card.check a 1) (net_card.check b 1) once.0 in
      let second = also_second (net_card.check a 1) (net_card.check b 1) once.0 in
      let (passed, text) = written_answer (join_checked a b list) (net_card.text (whole a b list)) once.1 in
      let read = sym (joined_read_back a b list first second passed) ∙ ap (alone net_card) text ∙ h.2 in
      (first, second, passed, sym (found_value read)),
  λ h.
      let (first, second, passed, e) = h in
      let bytes = net_card.text (whole a b list) in
      let back : alone net_card bytes ≡ found j (length bytes) =
      joined_read_back a b list first second passed ∙ ap (λ (n : Net). found n (length bytes)) (sym e) in
      (bytes, rw (first, second, passed) refl, back),
)

-- ---- nets that agree in all that counts
-- a second check counts only where the first passes
also_same : (c : Checked) {d d' : Checked} → (c ≡ Passed → d ≡ d') → also c d ≡ also c d'
also_same Passed h = h refl
also_same (Err r) h = refl

module _ {a b c d : Net} (s : SameNet a c) (u : SameNet b d) where
  starts_same : (vs : List (ℕ × ℕ)) → Each (λ v. (v.0 < c.places) × (v.1 < d.places)) vs
      → equal_starts a.start b.start vs ≡ equal_starts c.start d.start vs
  unfolding equal_starts
  starts_same [] h = refl
  starts_same (v ∷ vs) h =
      λ i. eqb (s.start v.0 h.0.0 i) (u.start v.1 h.0.1 i) && starts_same vs h.1 i

  module _ (list : List ℕ) where
    whole_same : pairs_checked c.places d.places list ≡ Passed → joined_net a b (pairs_of list) ≡ joined_net c d (pairs_of list)
    whole_same p = joined_same (pairs_of list) (each_map (λ v k. k.1) (pairs_of list) (pairs_below c.places d.places list p)) s u

    pub checks_same : join_checked a b list ≡ join_checked c d list
    checks_same =
        (λ i.
        also (pairs_checked (s.places i) (u.places i) list)
        (also (starts_checked a.start b.start list) (size_checked (joined_net a b (pairs_of list)))))
        ∙ also_same (pairs_checked c.places d.places list) (λ p.
        let starts = starts_same (pairs_of list) (pairs_below c.places d.places list p) in
        let net = whole_same p in
        λ i. also (cond (starts i) Passed (Err UnequalStarts)) (size_checked (net i)))

    pub same_joins : join_of a b list ≡ join_of c d list
    same_joins =
        ap (λ (k : Checked). written_if k (net_card.text (joined_net a b (pairs_of list)))) checks_same
        ∙ written_same (join_checked c d list) (λ p.
        ap net_card.text (whole_same (checks_passed c d list p).pairs))
      where
        written_same : (k : Checked) {x y : List ℕ} → (k ≡ Passed → x ≡ y) → written_if k x ≡ written_if k y
        written_same Passed h = ap (written_if Passed) (h refl)
        written_same (Err r) h = refl

pub join_slots : JoinSlots
join_slots a b c d list s u =
    (λ i. once_checked (also (same_net_check s 1 i) (same_net_check u 1 i)) (join_of a b list))
    ∙ ap (once_checked (also (net_card.check c 1) (net_card.check d 1))) (same_joins s u list)
