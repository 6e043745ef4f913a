-- The request, proved as specs/Request.antt states it, under the same names.
use Rattle.std.specs.Prelude.{Err}
use Prim.Native.Nat.{ℕ, ◌≤◌, ◌<◌}
use native.Mathlib.Omega.{arith}
use mathlib.Core.Path.{◌≡◌, refl, sym, ap, subst, subst⁻¹, ◌∙◌}
use mathlib.Core.Logic.{◌↔◌, ◌⊎◌, inl, inr, ⊎_elim}
use mathlib.Core.List.{List}
use lib.ListN.{length}
use lib.IntN.{ℤ, pos, negsuc}
use Rattle.reply.specs.declared.Refusal.{Refusal}
use Rattle.reply.specs.declared.Refusal.TheVariants.{AnotherSheet}
use Rattle.reply.specs.Refusal.{number_of, position_of}
use Rattle.reply.specs.Respond.{answer, Answered, Checked, Passed}
use Rattle.form.specs.Form.{Found, found, refused, found_if, also}
use Rattle.form.proofs.Found.{also_first, also_second, also_refused}
use Rattle.net.specs.declared.Net.{Net}
use Rattle.net.specs.Net.{net_card}
use Rattle.net.specs.Same.{SameNet}
use Rattle.net.proofs.Card.{net_transitions}
use Rattle.net.proofs.Same.{net_same}
use Rattle.run.specs.declared.Memory.{Memory}
use Rattle.run.specs.declared.Run.{Run}
use Rattle.run.specs.declared.Order.{Order}
use Rattle.run.specs.Run.{run_card, firings_of}
use Rattle.run.specs.Same.{SameRun}
use Rattle.run.proofs.Ranges.{run_in_ranges}
use Rattle.run.proofs.Same.{run_same}
use Rattle.firing.specs.Semantics.{arcs_of, Restart, rule_of}
use Rattle.firing.specs.Replay.{replay}
use Rattle.firing.proofs.Places.{replay_place}
use Rattle.cards.specs.Cards.{card_of, read_run, two_runs, run_checked, order_checked, two_runs_checked, two_runs_input}
use Rattle.cards.proofs.Cards.{run_counts}
use Rattle.cards.proofs.Sheets.{run_own_sheet, run_wrong_sheet, first_at_once, second_at_once, run_judged, net_judged, two_runs_ahead}
use Rattle.cards.proofs.TwoRuns.{two_runs_prefix, two_runs_was, two_runs_told, two_runs_back}
use Rattle.operations.specs.Operation.{once_read}
use Rattle.operations.specs.Timetable.{timetable_of, timetable_values}
use Rattle.operations.specs.Demands.{Allows}
use Rattle.operations.specs.Requests.{Elsewhere}
use Rattle.operations.proofs.Answers.{no_answer, once_answer}
use Rattle.operations.proofs.Places.{once_refused, replay_number}
use Rattle.operations.proofs.Demands.{allowed_exactly}
use Rattle.operations.specs.Replay.{replayed}
use Rattle.ranking.specs.Lead.{lead_of, sign_of}
use Rattle.ranking.specs.Claims.{OfOneOrder, Before, Level}
use Rattle.ranking.specs.Ranking.{rankable, rank_of, ranked_if, printed}
use Rattle.ranking.specs.Request.{RankedExactly, RankExactly, LeadDeciding, Total, Antisymmetric, Carried, Transitive, TimetableFirst, RefusedInOrder}
use Rattle.ranking.specs.Request.{RankOfCards, RankAsCards, RankedSheet, RankWrongSheet, RankWrongSheetExactly, RankSlots, RankPrefix, TwoRunsInverse}
use Rattle.ranking.proofs.Compared.{each_passed, both_passed, first_refuses, second_refuses, Rankable, rankable_exactly, printed_rankable}
use Rattle.ranking.proofs.Compared.{compared, ranks, value_refused, other_order, refused_cases, printed_refused, ranked_told}
use Rattle.ranking.proofs.Comparing.{two_runs_lem}
use Rattle.ranking.proofs.Ranks as order
use Rattle.ranking.proofs.First.{read_earliest}
use Rattle.ranking.proofs.First as first
use Rattle.ranking.proofs.Slots.{same_rank_of, same_rank_values}

some_parts : (net : Net) (r : Run) → run_checked net r ≡ Passed → 0 < r.denominator
some_parts net r p = ((run_in_ranges net.sheet net.transitions r).0 (also_second (net_card.check net 1) ((card_of run_card net).check r 1) p)).some_parts

-- ---- when runs are ranked
module _ (net : Net) (x y : Run) where
  rankable_allowed : Rankable net x y ↔ (Allows net x × Allows net y × OfOneOrder x y)
  rankable_allowed = (
    λ h. ((allowed_exactly net x).0 h.first, (allowed_exactly net y).0 h.second, h.one_order),
    λ h. record { first = (allowed_exactly net x).1 h.0; second = (allowed_exactly net y).1 h.1; one_order = h.2 },
  )

pub ranked_exactly : RankedExactly
ranked_exactly = (
  λ net x y. (
    λ h.
        let c = compared net x y h.2 in
        let (one, other, one_order) = (rankable_allowed net x y).0 c.rankable in
        (c.passed, one, other, one_order),
    λ h. (sign_of (lead_of x y), lead_of x y, ranks net x y h.0 ((rankable_allowed net x y).1 (h.1, h.2, h.3))),
  ),
  λ s. (
    there s (two_runs s) refl,
    λ h.
        let (net, x, y, e, one, other, one_order) = h in
        rw (e, (rankable_exactly net x y).1 ((rankable_allowed net x y).1 (one, other, one_order))) (_, refl),
  ),
)
  where
    there : (s : List ℕ) (f : Found (Net × (Run × Run))) → two_runs s ≡ f → Answered (once_read f (λ v. printed (rank_of v.0 v.1.0 v.1.1)))
        → (net : Net) × (x : Run) × (y : Run) × (two_runs s ≡ found (net, (x, y)) (length s)) × Allows net x × Allows net y × OfOneOrder x y
    there s (found (net, (x, y)) next) e a =
        let (one, other, one_order) = (rankable_allowed net x y).0 (printed_rankable net x y a.1) in
        (net, x, y, e ∙ ap (found (net, (x, y))) (two_runs_was s e).end, one, other, one_order)
    there s (refused r) e a = absurd (no_answer a.1)

-- ---- what a ranking says
pub rank_exactly : RankExactly
rank_exactly net x y rank lead e =
    let c = compared net x y e in
    subst (λ (z : ℤ). ((z ≡ negsuc 0) ↔ Before x y) × ((z ≡ pos 0) ↔ Level x y) × ((z ≡ pos 1) ↔ Before y x)) c.by_sign
    (order.rank_exactly x y (order.one_length x y c.rankable.one_order))

pub lead_deciding : LeadDeciding
lead_deciding net x y rank lead e =
    let c = compared net x y e in
    let n = order.one_length x y c.rankable.one_order in
    let by = sym c.by_lead in (
      λ b. by ∙ order.lead_deciding x y n b,
      λ b. by ∙ order.lead_deciding_after x y n b,
      subst (λ (z : ℤ). (z ≡ pos 0) ↔ Level x y) c.by_lead (order.lead_level x y n),
      sym c.by_sign ∙ ap sign_of c.by_lead,
    )

pub total : Total
total x y o = let n = order.one_length x y o in (order.total x y n, order.before_not_after x y n, order.before_not_level x y n)

pub antisymmetric : Antisymmetric
antisymmetric net x y rank lead e =
    let c = compared net x y e in
    let h = c.rankable in
    let n = order.one_length x y h.one_order in
    let (p, q) = each_passed net x y c.passed in
    let exchanged : Rankable net y x =
    record { first = h.second; second = h.first; one_order = (sym h.one_order.0, sym h.one_order.1) } in
    ranks net y x (both_passed net y x q p) exchanged
    ∙ rw (order.rank_antisymmetric x y n, order.lead_antisymmetric x y n, c.by_sign, c.by_lead) refl

-- ---- three runs
module _ (x y z : Run) (m : length (firings_of x) ≡ length (firings_of y)) (n : length (firings_of y) ≡ length (firings_of z))
    (d : 0 < x.denominator) (e : 0 < y.denominator) (f : 0 < z.denominator) where
  carried : Carried (sign_of (lead_of x y)) (sign_of (lead_of y z)) (sign_of (lead_of x z))
  carried =
      let xy = order.rank_exactly x y m in
      let yz = order.rank_exactly y z n in
      let xz = order.rank_exactly x z (m ∙ n) in
      let before = order.before_before x y z m n d e f in
      record {
        not_after = λ p q r. order.not_after_transitive x y z m n d e f (λ b. p (xy.2.1 b)) (λ b. q (yz.2.1 b)) (xz.2.0 r);
        before_first = λ p q.
            let b = xy.0.0 p in
            xz.0.1 (⊎_elim (before b) (⊎_elim (order.before_level x y z m n d e f b) (λ c. absurd (q (yz.2.1 c)))) (order.total y z n));
        before_second = λ p q.
            let b = yz.0.0 q in
            xz.0.1 (⊎_elim (λ c. before c b) (⊎_elim (λ l. order.level_before x y z m n d e f l b) (λ c. absurd (p (xy.2.1 c)))) (order.total x y m));
        level = λ p q. xz.1.1 (order.level_level x y z m n d e f (xy.1.0 p) (yz.1.0 q));
      }

pub transitive : Transitive
transitive net x y z a b ab bc p q =
    let one = compared net x y p in
    let two = compared net y z q in
    let o = one.rankable.one_order in
    let k = two.rankable.one_order in
    let (x-passed, y-passed) = each_passed net x y one.passed in
    let z-passed = (each_passed net y z two.passed).1 in
    let all : Rankable net x z =
    record { first = one.rankable.first; second = two.rankable.second; one_order = (o.0 ∙ k.0, o.1 ∙ k.1) } in
    let c = sign_of (lead_of x z) in
    let signs = carried x y z (order.one_length x y o) (order.one_length y z k) (some_parts net x x-passed) (some_parts net y y-passed)
    (some_parts net z z-passed) in (
      c,
      lead_of x z,
      ranks net x z (both_passed net x z x-passed z-passed) all,
      subst (λ (v : ℤ). Carried v b c) one.by_sign (subst (λ (v : ℤ). Carried (sign_of (lead_of x y)) v c) two.by_sign signs),
    )

-- ---- timetables
-- a run of the timetable's order does not stand before it
not_before : (net : Net) (o : Order) (bytes : List ℕ) (t r : Run) → timetable_values net o ≡ answer bytes → read_run net bytes ≡ found t (length bytes)
    → run_checked net r ≡ Passed → replayed net r ≡ Passed → OfOneOrder t r → Before r t → ⊥
not_before net o bytes t r e read p accepted one =
    let (passed, by) = (once_answer (order_checked net o) (timetable_of net o) bytes).0 e in
    let rule : Memory → Restart = rule_of (arcs_of net) in
    let early = (read_earliest net (rule o.memory) o bytes t passed by read).0 in
    let word : o.memory ≡ r.memory = sym early.memory ∙ one.0 in
    first.timetable_never_after net (rule o.memory) o bytes t passed by read r p
    (subst⁻¹ (λ (m : Memory). (replay net (rule m) r).checked ≡ Passed) word accepted) (sym one.1 ∙ early.order)

pub timetable_first : TimetableFirst
timetable_first = (
  λ net restarts o bytes r t p e read. first.timetable_never_after net restarts o bytes t p e read r,
  λ net o bytes t r rank lead e read. (
    λ h k.
        let c = compared net t r h in
        not_before net o bytes t r e read (each_passed net t r c.passed).1 c.rankable.second c.rankable.one_order
        ((rank_exactly net t r rank lead h).2.0 k),
    λ h k.
        let c = compared net r t h in
        let one = c.rankable.one_order in
        not_before net o bytes t r e read (each_passed net r t c.passed).0 c.rankable.first (sym one.0, sym one.1)
        ((rank_exactly net r t rank lead h).0.0 k),
  ),
)

-- ---- refusals
-- a replay does not refuse with place 0
replay_placed : (net : Net) (r : Run) {e : Refusal} → replayed net r ≡ Err e → 0 < position_of e
replay_placed net r {e} h = (replay_place net (rule_of (arcs_of net) r.memory) r e h).0

pub refused_in_order : RefusedInOrder
refused_in_order = (
  λ net x y e p. rw p refl,
  λ net x y p. (
    λ e h. rw (p, first_refuses net x y h) refl,
    λ e a h. rw (p, second_refuses net x y ((allowed_exactly net x).1 a) h) refl,
    (
      λ h.
          refused_cases net x y (λ q. absurd (omega (arith, replay_placed net x q))) (λ q r. absurd (omega (arith, replay_placed net y r)))
          (λ q r o k. ((allowed_exactly net x).0 q, (allowed_exactly net y).0 r, o)) (value_refused net x y p h),
      λ h. rw (p, other_order net x y ((allowed_exactly net x).1 h.0) ((allowed_exactly net y).1 h.1) h.2) refl,
    ),
  ),
)

-- ---- cards
pub rank_of_cards : RankOfCards
rank_of_cards = (λ s e p. rw p refl, λ s net x y next e. rw (e, (two_runs_was s e).passed) refl)

-- what is read back from the cards of values is the same up to the slots past the counts
module _ (net : Net) (x y : Run) (p : two_runs_checked net x y ≡ Passed) where
  clean_net : SameNet (net_card.clean net) net
  clean_net = let (places, transitions, count) = run_counts net x (each_passed net x y p).0 in net_same net places transitions

  clean_x : SameRun ((card_of run_card net).clean x) x
  clean_x = run_same net.sheet net.transitions x (run_counts net x (each_passed net x y p).0).2

  clean_y : SameRun ((card_of run_card net).clean y) y
  clean_y = run_same net.sheet net.transitions y (run_counts net y (each_passed net x y p).1).2

pub rank_as_cards : RankAsCards
rank_as_cards net x y = rw (two_runs_told net x y) (go (two_runs_checked net x y) refl)
  where
    go : (c : Checked) → two_runs_checked net x y ≡ c → printed (ranked_if c (rank_of net x y))
        ≡ once_read {A = Net × (Run × Run)}
        (found_if c (net_card.clean net, ((card_of run_card net).clean x, (card_of run_card net).clean y)) (length (two_runs_input net x y)))
        (λ v. printed (rank_of v.0 v.1.0 v.1.1))
    go Passed p = ap printed (sym (same_rank_of (clean_net net x y p) (clean_x net x y p) (clean_y net x y p)))
    go (Err e) p = refl

pub ranked_sheet : RankedSheet
ranked_sheet net x y rank lead e =
    let (p, q) = each_passed net x y (compared net x y e).passed in
    (run_own_sheet net x p, run_own_sheet net y q)

pub rank_wrong_sheet : RankWrongSheet
rank_wrong_sheet net p = (
  λ x y small other. rw (two_runs_lem net x y, run_wrong_sheet net p x small other) refl,
  λ x y first small other.
      let second : (card_of run_card net).check y 1 ≡ Err (AnotherSheet 1) = rw p at (run_wrong_sheet net p y small other) in
      rw (two_runs_lem net x y, first, second) refl,
  λ n small other rest. (
    rw (first_at_once net n small other rest p) refl,
    λ x q. rw (second_at_once net n small other rest p x q) refl,
  ),
)

-- a replay is 5, 6 or 7, and behind both 10 comes
rank_elsewhere : (net : Net) (x y : Run) → rankable net x y ≡ Err (AnotherSheet 1) → ⊥
rank_elsewhere net x y =
    let number : (r : Run) → replayed net r ≡ Err (AnotherSheet 1) → ⊥ =
    λ r e. let h : 11 ≤ 7 = replay_number net (rule_of (arcs_of net) r.memory) r (AnotherSheet 1) e in omega arith in
    refused_cases net x y (number x) (λ p. number y) (λ p q other e. omega (arith, ap number_of e))

-- where values are told so: X is elsewhere, or X passes and Y is
checks_elsewhere : (net : Net) (x y : Run) → two_runs_checked net x y ≡ Err (AnotherSheet 1)
    → Elsewhere net x.sheet ⊎ ((run_checked net x ≡ Passed) × Elsewhere net y.sheet)
checks_elsewhere net x y =
    let card = card_of run_card net in
    also_refused (net_card.check net 1) (also (card.check x 1) (card.check y 1)) (λ p. absurd (net_judged net p)) (λ p.
    let few = (net_transitions net p).1 in
    also_refused (card.check x 1) (card.check y 1) (λ e. let h = run_judged net few x e in inl (p, h.0, h.1)) (λ q e.
    let h = run_judged net few y e in
    inr (rw p q, (p, h.0, h.1))))

pub rank_wrong_sheet_exactly : RankWrongSheetExactly
rank_wrong_sheet_exactly = (
  λ net x y. (
    λ e.
        ranked_told (two_runs_checked net x y) (rank_of net x y) (checks_elsewhere net x y) (λ p q. absurd (rank_elsewhere net x y (value_refused net x y p e))) e,
    ⊎_elim (λ h. (rank_wrong_sheet net h.0).0 x y h.1 h.2) (λ h. let (p, n) = h in (rank_wrong_sheet net n.0).1 x y p n.1 n.2),
  ),
  λ s. (
    once_refused (two_runs s) _ (two_runs_ahead s) (λ v next p e. absurd (rank_elsewhere v.0 v.1.0 v.1.1 (printed_refused v.0 v.1.0 v.1.1 e))),
    ⊎_elim
        (λ h.
        let (net, behind, p, whole, ahead) = h in
        let (n, rest, small, other, line) = ahead in
        rw (whole, line) ((rank_wrong_sheet net p).2 n small other rest).0)
        (λ h.
        let (net, x, behind, p, whole, ahead) = h in
        let (n, rest, small, other, line) = ahead in
        let first = also_first (net_card.check net 1) _ p in
        rw (whole, line) (((rank_wrong_sheet net first).2 n small other rest).1 x (also_second (net_card.check net 1) _ p))),
  ),
)

pub rank_slots : RankSlots
rank_slots a b x y p q n s t = same_rank_values n s t

pub rank_prefix : RankPrefix
rank_prefix s k h = ap (λ f. once_read f (λ v. printed (rank_of v.0 v.1.0 v.1.1))) (two_runs_prefix s k h)

pub two_runs_inverse : TwoRunsInverse
two_runs_inverse = (
  λ s net x y next e. (two_runs_was s e).bytes,
  λ net x y p. (
    net_card.clean net,
    (card_of run_card net).clean x,
    (card_of run_card net).clean y,
    two_runs_back net x y p,
    clean_net net x y p,
    clean_x net x y p,
    clean_y net x y p,
  ),
)
