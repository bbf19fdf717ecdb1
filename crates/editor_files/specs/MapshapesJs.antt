-- The bytes of client/mapshapes.js. tools/client --write wrote this.
use Rattle.std.specs.Prelude.{ℕ, List, codes}

-- the file `mapshapes.js`
unfoldable pub mapshapes_js : List ℕ
mapshapes_js = codes "// The axioms of a sentence by those of others of its shape, which are equal to it but for their words. The wiki doesn't tell this:\n// it is inferred here, since no rule and no meaning looks at a word but by its kind, its form and where else it stands.\nimport { nameOf, tokensOf, wordOf } from './lexicon.js';\n\n// For each shape the sentences that were asked for: the names of their words, with a space between two, and their axioms.\nconst told = new Map();\n\n// A token of the grammar stands for itself, and a word for its kind, the forms that are this text, and which of the words it is.\nfunction placeOf(text) {\n    const tokens = tokensOf(text);\n    const words = [...new Set(tokens.map(wordOf).filter((word) => word))];\n    const partOf = (token, word) => word ? [word.kind, word.forms.map((form) => form === token), words.indexOf(word)] : token;\n    const shape = JSON.stringify(tokens.map((token) => partOf(token, wordOf(token))));\n    if (!told.has(shape)) { told.set(shape, new Map()); }\n    return { sentences: told.get(shape), names: words.map(nameOf).join(' ') };\n}\n\nexport function learn(text, axioms) {\n    const { sentences, names } = placeOf(text);\n    sentences.set(names, axioms);\n}\n\nexport function forget(text) {\n    const { sentences, names } = placeOf(text);\n    sentences.delete(names);\n}\n\n// What was asked for this sentence, or is inferred for it; undefined where it has to be asked for. Nothing is inferred but where\n// the axioms of the first sentence of a shape lead to those that the second one was told to have.\nexport function axiomsOf(text) {\n    const { sentences, names } = placeOf(text);\n    const [first, second] = sentences;\n    if (sentences.has(names) || second === undefined) { return sentences.get(names); }\n    return renamed(first, second[0]).join('\\n') === second[1].join('\\n') ? renamed(first, names) : undefined;\n}\n\n// Axioms with other words in the places of these. What is no word of the sentence becomes what no word is.\nfunction renamed([names, axioms], others) {\n    const all = others.split(' ');\n    const other = new Map(names.split(' ').map((name, place) => [name, all[place]]));\n    return axioms.map((axiom) => axiom.replace(/(^|[ (]):([^ ()]*)/g, (whole, before, name) => `${before}:${other.get(name) || '?'}`));\n}\n"
