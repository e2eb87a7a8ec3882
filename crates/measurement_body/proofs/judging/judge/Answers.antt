-- `judge` meets its contract, kind by kind.
use Rattle.std.proofs.Common.{arith}
use Rattle.std.proofs.lemmas.Grind.{common_steps}
use Rattle.measurement_body.proofs.judging.judge.Goals as goal

pub returns-in_err-request-in-Requests : goal.returns-in_err-request-in-Requests
returns-in_err-request-in-Requests c = rw c.in-Requests.is (grind (arith, common_steps))

pub returns-in_err-report-in-Reports : goal.returns-in_err-report-in-Reports
returns-in_err-report-in-Reports c = rw c.in-Reports.is (grind (arith, common_steps))

pub returns-then-is_clear : goal.returns-then-is_clear
returns-then-is_clear c = rw c.in-Requests.is (grind (arith, common_steps))

pub returns-else-is_clear : goal.returns-else-is_clear
returns-else-is_clear c = rw c.in-Requests.is (grind (arith, common_steps))

pub returns-then-is_clear-2 : goal.returns-then-is_clear-2
returns-then-is_clear-2 c = rw c.in-Reports.is (grind (arith, common_steps))

pub returns-else-is_clear-2 : goal.returns-else-is_clear-2
returns-else-is_clear-2 c = rw c.in-Reports.is (grind (arith, common_steps))
