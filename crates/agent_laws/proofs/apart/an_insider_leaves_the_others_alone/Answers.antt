use Rattle.agent_laws.proofs.ApartInsideLemmas.{heard-own, took-own}
use Rattle.agent_laws.proofs.apart.an_insider_leaves_the_others_alone.Goals as goal

pub returns-clause-heard : goal.returns-clause-heard
returns-clause-heard c = λ who state moment number piece port same alike found client inside. heard-own who state moment same alike number port found client piece inside

pub returns-clause-took : goal.returns-clause-took
returns-clause-took c = λ who state moment number count port same alike found client inside. took-own who state moment same alike number port found client count inside
