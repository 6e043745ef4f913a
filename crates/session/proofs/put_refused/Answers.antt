-- The two lines of a refusal fit the output.
use Rattle.std.proofs.Common.{arith, rules, ◌≡◌, length}
use Rattle.laws.specs.Tables.{length_mapped}
use Rattle.session.proofs.Short.{refusal_short}
use Rattle.session.proofs.Fronts.{put_front}
use Rattle.session.proofs.put_refused.Goals as goal

pub returns : goal.returns
returns c = let long : length c.args.out.now ≡ 2048 = search (rules, length_mapped) in
    put_front (omega (arith, long, refusal_short c.args.e)) c.refusal_front.ensures
