-- The bytes of client/page.js. tools/client --write wrote this.
use Rattle.std.specs.Prelude.{ℕ, List, codes}

-- the file `page.js`
unfoldable pub page_js : List ℕ
page_js = codes "// The elements of the page. A text goes in as text alone, so that nothing that the wiki tells is ever markup.\n\nexport function make(name, attributes, ...children) {\n    const element = document.createElement(name);\n    for (const [key, value] of Object.entries(attributes)) {\n        if (typeof value === 'function') {\n            element.addEventListener(key.slice(2), value);\n        } else if (value !== false && value !== null && value !== undefined) {\n            element.setAttribute(key, value === true ? '' : String(value));\n        }\n    }\n    return fill(element, children);\n}\n\nexport function fill(element, ...children) {\n    element.replaceChildren(...children.flat(Infinity).filter((child) => child !== null && child !== undefined));\n    return element;\n}\n\n// A word or a sentence, set apart from the direction of the text around it.\nexport const quoted = (text) => ['\\u201c', make('bdi', {}, text), '\\u201d'];\n\nexport const address = (article, place) => '#/article/' + encodeURIComponent(article) + (place === undefined ? '' : '/' + String(place));\n\n// Opens the page at this address, also where it is open already.\nexport function visit(where) {\n    if (location.hash === where) { window.dispatchEvent(new Event('hashchange')); }\n    location.hash = where;\n}\n\nexport const wordLink = (article, text) => make('a', { href: address(article) }, make('bdi', {}, text || article));\nexport const placeLink = (article, place) => make('a', { href: address(article, place) }, 'sentence ' + String(place + 1) + ' of ', make('bdi', {}, article));\n\n// A button whose action may wait for the wiki. It does nothing more meanwhile, and an error is shown as a sentence.\nexport function button(label, action, attributes) {\n    const element = make('button', { type: 'button', ...attributes }, label);\n    element.addEventListener('click', () => attempt(action, element));\n    return element;\n}\n\nexport const closeButton = (action) => make('button', { type: 'button', class: 'close', 'aria-label': 'Close this message', onclick: action }, '\\u00d7');\n\nlet explain = null;\nexport const explainBy = (how) => { explain = how; };\nexport const explained = (error) => explain(error);\n\nexport async function attempt(action, element) {\n    if (element && element.getAttribute('aria-disabled') === 'true') { return; }\n    if (element) { element.setAttribute('aria-disabled', 'true'); }\n    try {\n        await action();\n    } catch (error) {\n        complain(explain(error));\n    } finally {\n        if (element) { element.removeAttribute('aria-disabled'); }\n    }\n}\n\n// Whether a change was done for certain. Where nobody knows yet, that is told; a refusal is thrown.\nexport async function isDone(change) {\n    try {\n        await change;\n        return true;\n    } catch (error) {\n        if (!error.uncertain) { throw error; }\n        complain(explain(error));\n        return false;\n    }\n}\n\nconst KEPT_NOTICES = 3;\n\nfunction notice(kind, role, children) {\n    const notices = document.getElementById('notices');\n    const element = make('div', { class: 'notice ' + kind, role }, make('div', {}, children), closeButton(() => {\n        element.remove();\n        document.getElementById('main').focus();\n    }));\n    element.made = performance.now();\n    notices.append(element);\n    if (notices.children.length > KEPT_NOTICES) { notices.firstElementChild.remove(); }\n    return element;\n}\n\n// Takes away the messages that are older than this very moment's.\nexport function clearNotices() {\n    const limit = performance.now() - 1000;\n    [...document.getElementById('notices').children].filter((it) => it.made < limit).forEach((it) => it.remove());\n}\n\nexport const say = (...children) => notice('plain', undefined, children);\nexport const complain = (...children) => notice('bad', 'alert', children);\n\n// A field with its label before it.\nexport const field = (label, input, hint) => make('div', { class: 'field' }, make('label', { for: input.id }, label), input, hint ? make('small', {}, hint) : null);\n\nlet lastNumber = 0;\n\nexport function freshId(name) {\n    lastNumber += 1;\n    return name + '-' + String(lastNumber);\n}\n\nexport const count = (n, thing) => n.toLocaleString('en') + ' ' + thing + (n === 1 ? '' : (thing.endsWith('s') ? 'es' : 's'));\n"
