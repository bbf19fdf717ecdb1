-- The bytes of client/mapfacts.js. tools/client --write wrote this.
use Rattle.std.specs.Prelude.{ℕ, List, codes}

-- the file `mapfacts.js`
unfoldable pub mapfacts_js : List ℕ
mapfacts_js = codes "// What is asserted of classes and names, gathered article by article: by `read`, and by `axioms` for sentences of new shapes.\nimport { ask, unless } from './api.js';\nimport { allWords, load, nameOf } from './lexicon.js';\nimport { axiomsOf, forget, learn } from './mapshapes.js';\n\n// Calls `progress` with how many articles were read and how many there are; it tells whether to go on.\nexport async function gather(progress) {\n    await load();\n    const names = allWords().map(nameOf);\n    const ofKind = (kind) => allWords().filter((word) => word.kind === kind).map(nameOf);\n    const facts = { classes: ofKind('noun'), names: ofKind('name'), below: new Map(), classesOf: new Map(), relations: [], others: 0 };\n    for (const [place, article] of names.entries()) {\n        const axioms = await axiomsIn(article, () => progress(place, names.length));\n        if (axioms === null) { return null; }\n        axioms.forEach((axiom) => { facts.others += note(facts, parsed(axiom)) ? 0 : 1; });\n    }\n    return facts;\n}\n\n// The axioms of what an article asserts. Those that are asked for count where its revision is the same afterwards: else they may\n// be those of another sentence, which stood at the place by then.\nasync function axiomsIn(article, goesOn) {\n    let [last, asked] = [null, []];\n    try {\n        while (goesOn()) {\n            const { revision, sentences } = await ask('read', { article }).catch(unless('NoWord', { sentences: [] }));\n            if (revision !== last) { asked.forEach(forget); }\n            [last, asked] = [revision, []];\n            for (const [at, { text, status }] of sentences.entries()) {\n                if (status === 'asserted' && !axiomsOf(text)) {\n                    asked.push(text);\n                    learn(text, (await ask('axioms', { article, at }).catch(unless('NoPlace', {}))).axioms || []);\n                }\n            }\n            if (asked.length === 0) { return sentences.filter((it) => it.status === 'asserted').flatMap((it) => axiomsOf(it.text)); }\n        }\n        return null;\n    } finally {\n        asked.forEach(forget);\n    }\n}\n\n// An axiom as a tree: a word is a text without its colon, anything else a list of an operator and its arguments.\nexport function parsed(text) {\n    const open = [[]];\n    for (const [, name, begins] of text.matchAll(/([^\\s()]+)(\\()?|\\)/g)) {\n        if (begins) {\n            open.push([name]);\n        } else {\n            const done = name ? name.replace(/^:/, '') : open.pop();\n            open[open.length - 1].push(done);\n        }\n    }\n    return open[0][0];\n}\n\nconst relate = (facts, role, from, to) => facts.relations.push(isWord(role) ? { role, from, to } : { role: role[1], from: to, to: from });\nconst parts = (tree, operator) => tree[0] === operator ? tree.slice(1).flatMap((part) => parts(part, operator)) : [tree];\nconst isWord = (tree) => typeof tree === 'string' && !tree.startsWith('owl:');\nconst put = (map, key, value) => map.set(key, (map.get(key) || new Set()).add(value));\n\n// Notes what can be drawn of an axiom, and tells whether anything can.\nfunction note(facts, [kind, one, two, three]) {\n    switch (kind) {\n    case 'SubClassOf': return parts(one, 'ObjectUnionOf').filter((low) => (\n        parts(two, 'ObjectIntersectionOf').filter((high) => isWord(low) && isWord(high) && put(facts.below, low, high)).length > 0)).length > 0;\n    case 'ClassAssertion': return parts(one, 'ObjectIntersectionOf').filter((part) => (\n        isWord(part) ? put(facts.classesOf, two, part) : part[0] === 'ObjectHasValue' && relate(facts, part[1], two, part[2]))).length > 0;\n    case 'ObjectPropertyAssertion': return relate(facts, one, two, three);\n    case 'SameIndividual': return relate(facts, 'is', one, two);\n    default: return false;\n    }\n}\n"
