-- The checks in their order; where all pass, the places are laid out and the joined net is written.
use Rattle.std.proofs.Common.{refl, sym, ◌∙◌, rules}
use Rattle.laws.specs.Tables.{length_mapped}
use Rattle.joining.proofs.Checking.{given, odd_list, wrong_first, wrong_second, right_pairs, right_named, unequal_starts, too_long, too_many, first_there, answered}
use Rattle.joining.proofs.join_nets.Goals as goal
use Rattle.joining.proofs.join_nets.Goals.{then-not-is_empty-via-then-not-is_empty, then-not-is_empty-via-else-not-is_empty+then-is_none}

pub returns-then-not-is_empty : goal.returns-then-not-is_empty
returns-then-not-is_empty c =
    let g = given c.args.a.now c.args.b.now c.args.list.now c.requires.first c.requires.second c.as_chunks.ensures.front c.as_chunks.ensures.back_len in
    elim c.then-not-is_empty.branch [
      | then-not-is_empty-via-then-not-is_empty w ↦
          rw (odd_list g w.if-not-is_empty.ensures) (record { reply = refl; output = refl })
      | then-not-is_empty-via-else-not-is_empty+then-is_none w ↦
          rw (wrong_first g w.look_at.result w.look_at.ensures w.if-is_none.ensures) (record { reply = refl; output = refl })
    ]

pub returns-in_default : goal.returns-in_default
returns-in_default c =
    let g = given c.args.a.now c.args.b.now c.args.list.now c.requires.first c.requires.second c.as_chunks.ensures.front c.as_chunks.ensures.back_len in
    rw (wrong_second g c.in_default.ensures) (record { reply = refl; output = refl })

pub equal_starts-requires : goal.equal_starts-requires
equal_starts-requires c =
    let g = given c.args.a.now c.args.b.now c.args.list.now c.requires.first c.requires.second c.as_chunks.ensures.front c.as_chunks.ensures.back_len in
    let right = right_pairs g c.if-not-is_empty.ensures c.look_at.result c.look_at.ensures c.if-is_none.ensures c.in-Some.ensures.0 in
    right_named g right

pub returns-then-not-equal_starts : goal.returns-then-not-equal_starts
returns-then-not-equal_starts c =
    let g = given c.args.a.now c.args.b.now c.args.list.now c.requires.first c.requires.second c.as_chunks.ensures.front c.as_chunks.ensures.back_len in
    let right = right_pairs g c.if-not-is_empty.ensures c.look_at.result c.look_at.ensures c.if-is_none.ensures c.in-Some.ensures.0 in
    rw (unequal_starts g right (sym c.equal_starts.ensures ∙ c.if-not-equal_starts.true)) (record { reply = refl; output = refl })

pub partners-requires : goal.partners-requires
partners-requires c =
    let g = given c.args.a.now c.args.b.now c.args.list.now c.requires.first c.requires.second c.as_chunks.ensures.front c.as_chunks.ensures.back_len in
    let right = right_pairs g c.if-not-is_empty.ensures c.look_at.result c.look_at.ensures c.if-is_none.ensures c.in-Some.ensures.0 in
    right_named g right

pub returns-in_default-lay_out : goal.returns-in_default-lay_out
returns-in_default-lay_out c =
    let g = given c.args.a.now c.args.b.now c.args.list.now c.requires.first c.requires.second c.as_chunks.ensures.front c.as_chunks.ensures.back_len in
    let right = right_pairs g c.if-not-is_empty.ensures c.look_at.result c.look_at.ensures c.if-is_none.ensures c.in-Some.ensures.0 in
    rw (too_many g right
    (sym c.equal_starts.ensures ∙ c.if-not-equal_starts.false) _ (search (rules, length_mapped)) c.in-Some.ensures.1 c.partners.ensures.partners c.in_default-lay_out.ensures)
    (record { reply = refl; output = refl })

pub returns-then-a-b-gt32 : goal.returns-then-a-b-gt32
returns-then-a-b-gt32 c =
    let g = given c.args.a.now c.args.b.now c.args.list.now c.requires.first c.requires.second c.as_chunks.ensures.front c.as_chunks.ensures.back_len in
    let right = right_pairs g c.if-not-is_empty.ensures c.look_at.result c.look_at.ensures c.if-is_none.ensures c.in-Some.ensures.0 in
    rw (too_long g right
    (sym c.equal_starts.ensures ∙ c.if-not-equal_starts.false) c.if-a-b-gt32.true) (record { reply = refl; output = refl })

pub joined-requires-clause-places : goal.joined-requires-clause-places
joined-requires-clause-places c =
    let g = given c.args.a.now c.args.b.now c.args.list.now c.requires.first c.requires.second c.as_chunks.ensures.front c.as_chunks.ensures.back_len in
    let right = right_pairs g c.if-not-is_empty.ensures c.look_at.result c.look_at.ensures c.if-is_none.ensures c.in-Some.ensures.0 in
    first_there g right
    (sym c.equal_starts.ensures ∙ c.if-not-equal_starts.false) _ (search (rules, length_mapped)) c.in-Some.ensures.1 c.partners.ensures.partners c.in-Some-lay_out.ensures

pub returns : goal.returns
returns c =
    let g = given c.args.a.now c.args.b.now c.args.list.now c.requires.first c.requires.second c.as_chunks.ensures.front c.as_chunks.ensures.back_len in
    let right = right_pairs g c.if-not-is_empty.ensures c.look_at.result c.look_at.ensures c.if-is_none.ensures c.in-Some.ensures.0 in
    rw (answered g right
    (sym c.equal_starts.ensures ∙ c.if-not-equal_starts.false) _ (search (rules, length_mapped)) c.in-Some.ensures.1 c.partners.ensures.partners c.in-Some-lay_out.ensures
    c.if-a-b-gt32.false c.joined.ensures) at c.write_net.ensures
