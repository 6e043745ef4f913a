-- The length and the code of a narrow reply are far below 2 ^ 63, so that casts and the difference are exact.
use native.Mathlib.Nat.{lt_trans}
use lib.Dec.{lit<}
use Rattle.tpn.proofs.Results.{length_fits, length_told, code_fits, refusal_fits, refusal_told}
use Rattle.tpn.proofs.result_of.Goals as goal

pub overflow_cast-result : goal.overflow_cast-result
overflow_cast-result c = record { sfits = length_fits c.requires c.in-Ok.is }

pub overflow_add-code : goal.overflow_add-code
overflow_add-code c =
    record {
      fits = lt_trans (code_fits c.requires c.in-Err.is c.number-number.ensures c.position-place.ensures) (lit< tt);
    }

pub overflow_cast-result-in-Err : goal.overflow_cast-result-in-Err
overflow_cast-result-in-Err c = record { sfits = code_fits c.requires c.in-Err.is c.number-number.ensures c.position-place.ensures }

pub overflow_sub-result : goal.overflow_sub-result
overflow_sub-result c = refusal_fits c.requires c.in-Err.is c.number-number.ensures c.position-place.ensures

pub returns-in-Ok : goal.returns-in-Ok
returns-in-Ok c = length_told c.requires c.in-Ok.is

pub returns-in-Err : goal.returns-in-Err
returns-in-Err c = refusal_told c.requires c.in-Err.is c.number-number.ensures c.position-place.ensures
