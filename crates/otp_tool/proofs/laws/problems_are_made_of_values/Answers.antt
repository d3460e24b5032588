use Rattle.otp_tool.proofs.ToldLemmas.{are_asked, asked_alike, is_asked, some_name}
use Rattle.otp_tool.proofs.laws.problems_are_made_of_values.Goals as goal

pub returns-clause-asked : goal.returns-clause-asked
returns-clause-asked c name g word u r = is_asked _ g _ u r

pub returns-clause-with_each_form : goal.returns-clause-with_each_form
returns-clause-with_each_form c name g = are_asked _ g

pub returns-clause-alike : goal.returns-clause-alike
returns-clause-alike c name g word problem a = asked_alike _ g _ _ a

pub returns-clause-some_name : goal.returns-clause-some_name
returns-clause-some_name c words command are = some_name _ _ are
