use Rattle.cert_check.proofs.OneFault.{one_first}
use Rattle.cert_check.proofs.laws.one_fault_comes_first.Goals as goal

pub returns : goal.returns
returns c problem answer fault other states first second = one_first _ _ states _ _ first second
