-- `ok` and the two lines of a refusal fit the output.
use Rattle.std.proofs.Common.{arith, rules, ◌≡◌, length}
use Rattle.laws.specs.Tables.{length_mapped}
use Rattle.session.proofs.Fronts.{put_front}
use Rattle.session.proofs.put_told.Goals as goal

pub returns-in-Err : goal.returns-in-Err
returns-in-Err c = rw c.in-Err.is c.put_refused.ensures

pub returns-in-Ok : goal.returns-in-Ok
returns-in-Ok c = let long : length c.args.out.now ≡ 2048 = search (rules, length_mapped) in
    rw c.in-Ok.is (put_front (omega (arith, long)) c.put_word.ensures)
