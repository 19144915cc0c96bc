-- A bench by value is the memory that its arrays are.
use Rattle.call.specs.Call.{Memory}
use Rattle.bench.specs.declared.Bench.{Bench}

abbrev pub memory : Bench → Memory
memory b =
    record {
      all = b.forms;
      names = b.names;
      texts = b.texts;
      lens = b.lens;
      plans = b.plans;
      filed = b.filed;
      name = b.name;
      text = b.text;
      answers = b.answers;
      values = b.values;
      held = b.held;
    }
