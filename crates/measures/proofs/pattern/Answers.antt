-- `measures::pattern` meets its contract: the reduced words generate all words, and there are few enough of them. Assumes nothing.
use Rattle.measures.specs.Ready.{words_pattern, few_generators}
use Rattle.measures.proofs.pattern.Goals as goal

pub pattern_of-requires : goal.pattern_of-requires
pattern_of-requires c = (c.requires.size.most, few_generators c.requires)

pub returns : goal.returns
returns c =
    (words_pattern c.requires c.generators-words.ensures c.pattern_of.ensures, c.pattern_of.ensures.unused)
