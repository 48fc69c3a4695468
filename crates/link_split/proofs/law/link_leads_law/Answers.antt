-- Answers the goals of `link_leads_law`.
use Rattle.link_split.proofs.Leading.{link_leads}
use Rattle.link_split.proofs.law.link_leads_law.Goals as goal

pub returns : goal.returns
returns c = link_leads
