-- Document 01, "Who can cause a refusal", and document 02: the number and the place of each refusal.
use Rattle.std.specs.Prelude.{ℕ}
use Rattle.reply.specs.declared.Refusal.{Refusal}
use Rattle.reply.specs.declared.Refusal.TheVariants.{Malformed, OutOfRange, LatestBelowEarliest, NoSuchTransition, NotEnabled, TooManyTokens}
use Rattle.reply.specs.declared.Refusal.TheVariants.{OutsideInterval, Untimable, OutputTooShort, OtherOrder, AnotherSheet}
use Rattle.reply.specs.declared.Refusal.TheVariants.{BadPairs, UnequalStarts, TooLarge, ClosedRun}

abbrev pub number_of : Refusal → ℕ
number_of (Malformed line) = 1
number_of (OutOfRange line) = 2
number_of (LatestBelowEarliest line) = 3
number_of (NoSuchTransition line) = 4
number_of (NotEnabled firing) = 5
number_of (TooManyTokens firing) = 6
number_of (OutsideInterval firing) = 7
number_of (Untimable firing) = 8
number_of OutputTooShort = 9
number_of OtherOrder = 10
number_of (AnotherSheet line) = 11
number_of BadPairs = 12
number_of UnequalStarts = 13
number_of TooLarge = 14
number_of ClosedRun = 15

-- a line of a card from 1, a firing from 1, or 0 where the output is too short, two runs are not of one order, two nets cannot be joined or a run is closed
abbrev pub position_of : Refusal → ℕ
position_of (Malformed line) = line
position_of (OutOfRange line) = line
position_of (LatestBelowEarliest line) = line
position_of (NoSuchTransition line) = line
position_of (NotEnabled firing) = firing
position_of (TooManyTokens firing) = firing
position_of (OutsideInterval firing) = firing
position_of (Untimable firing) = firing
position_of OutputTooShort = 0
position_of OtherOrder = 0
position_of (AnotherSheet line) = line
position_of BadPairs = 0
position_of UnequalStarts = 0
position_of TooLarge = 0
position_of ClosedRun = 0
